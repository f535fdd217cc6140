use Rattle.std.proofs.Common.{◌≡◌, ℕ, ◌<◌, replicate, rules, arith, [], length, ap, sym, ◌∙◌}
use Rattle.lts_base.specs.Reached.{with_new}
use Rattle.walk_core.proofs.WalkLaws.{IsFresh-alone, IsInterned-fresh}
use Rattle.walk_core.proofs.MarkLaws.{marks_none}
use Rattle.walk_core.proofs.interned.Interned.new.Goals as goal

pub returns-clause-fresh : goal.returns-clause-fresh
returns-clause-fresh c =
    let system = c.states-count.ensures.system in
    let grown : c.add.new.sets.keys ≡ with_new [] c.in_ok-set.set = rw c.with_hasher-sets.ensures.empty at c.in_ok-add.ensures.ok.0 in
    IsFresh-alone _ _ c.in_ok-set.set system c.in_ok-set.ensures.opening c.in_ok-set.ensures.within (rw c.states.ensures.value at c.if-members-most.false) c.requires _ grown

pub invariant_of-result : goal.invariant_of-result
invariant_of-result c =
    let grown : c.add.new.sets.keys ≡ with_new [] c.in_ok-set.set = rw c.with_hasher-sets.ensures.empty at c.in_ok-add.ensures.ok.0 in
    let few : 0 < length c.add.new.sets.keys = rw grown (omega arith) in (
      IsInterned-fresh _ _ _ c.in_ok-set.set _ _ (returns-clause-fresh c) grown (ap length c.states.ensures.value) (c.in_ok-set.ensures.states ∙ c.in_ok-search.ensures.states ∙ c.states-count.ensures.states) (let e : c.in-Ok.alone.items ≡ replicate {A = ℕ} c.states-count.result 0 = search rules in rw (← c.states-count.ensures.states) e) c.in_ok-taus.ensures,
      c.keep.ensures.rows c.add.new.sets.keys (marks_none _ _ c.in_ok-marks.ensures.made c.in_ok-marks.ensures.none _) few (rw grown (sym c.states-2.ensures.value)),
    )
