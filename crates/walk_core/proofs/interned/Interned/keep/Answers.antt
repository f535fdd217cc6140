use Rattle.std.proofs.Common.{◌≡◌, ◌+◌, ◌∙◌, [], length, get_or, ap, sym}
use Rattle.std.proofs.lemmas.List.{get_or_read}
use Rattle.walk_core.proofs.WalkLaws.{found_at, absent_from_test, kept_before, absent_before, number_fits, number_low, only_low, IsInterned-kept}
use Rattle.walk_core.proofs.MarkLaws.{marks_new}
use Rattle.walk_core.proofs.interned.Interned.keep.Goals as goal

pub overflow_cast-result : goal.overflow_cast-result
overflow_cast-result c = number_fits _ _ c.self.invariant.0.walk c.in-Some.ensures.within

pub returns-in-Some-clause-number : goal.returns-in-Some-clause-number
returns-in-Some-clause-number c = rw (← c.self.view_is) (found_at _ _ _ (sym c.in-Some.ensures.index))

pub returns-then-reached-self-clause-err : goal.returns-then-reached-self-clause-err
returns-then-reached-self-clause-err c =
    rw (← c.self.view_is, c.states.ensures.value) (
      absent_from_test _ _ (sym c.in_default.ensures.found),
      ap (λ n. n + length c.args.set) c.self.invariant.0.members,
      rw c.states.ensures.value at c.if-reached-self.true,
    )

pub overflow_cast-result-then-place-count : goal.overflow_cast-result-then-place-count
overflow_cast-result-then-place-count c = number_fits _ _ c.self.invariant.0.walk (rw c.len-count.ensures.len at c.if-place-count.true)

pub invariant_of-self-then-place-count : goal.invariant_of-self-then-place-count
invariant_of-self-then-place-count c =
    let same : c.add.new.sets.keys ≡ c.self.inside.sets.keys = kept_before _ _ c.args.set _ c.in_ok-place.ensures.ok.0 (rw c.len-count.ensures.len at c.if-place-count.true) c.in_ok-place.ensures.ok.2 in
    rw same c.self.invariant

pub returns-then-place-count-clause-walk : goal.returns-then-place-count-clause-walk
returns-then-place-count-clause-walk c = (invariant_of-self-then-place-count c).0.walk

pub overflow_cast-place : goal.overflow_cast-place
overflow_cast-place c =
    number_fits _ _ (IsInterned-kept _ _ _ _ _ c.args.set _ _ c.only_state-only.result c.in_ok-place.place c.self.invariant.0 (rw (← c.self.view_is) at c.requires)
    (absent_before _ _ c.args.set c.in_ok-place.place c.len-count.result c.in_ok-place.ensures.ok.0 c.len-count.ensures.len c.if-place-count.false c.in_ok-place.ensures.ok.1)
    (ap length c.states.ensures.value) c.if-reached-self.false c.in_ok-place.ensures.ok.0 c.only_state-only.ensures c.in_ok-place.ensures.ok.1 c.in_ok-place.ensures.ok.2).walk c.in_ok-place.ensures.ok.1

pub overflow_cast-result-2 : goal.overflow_cast-result-2
overflow_cast-result-2 c =
    number_fits _ _ (IsInterned-kept _ _ _ _ _ c.args.set _ _ c.only_state-only.result c.in_ok-place.place c.self.invariant.0 (rw (← c.self.view_is) at c.requires)
    (absent_before _ _ c.args.set c.in_ok-place.place c.len-count.result c.in_ok-place.ensures.ok.0 c.len-count.ensures.len c.if-place-count.false c.in_ok-place.ensures.ok.1)
    (ap length c.states.ensures.value) c.if-reached-self.false c.in_ok-place.ensures.ok.0 c.only_state-only.ensures c.in_ok-place.ensures.ok.1 c.in_ok-place.ensures.ok.2).walk c.in_ok-place.ensures.ok.1

pub note-requires-clause-only : goal.note-requires-clause-only
note-requires-clause-only c = only_low _ _ _ c.args.set _ c.self.invariant.0.single c.only_state-only.ensures (rw (← c.self.view_is) at c.requires).within

pub note-requires-clause-number : goal.note-requires-clause-number
note-requires-clause-number c =
    number_low _ _ (IsInterned-kept _ _ _ _ _ c.args.set _ _ c.only_state-only.result c.in_ok-place.place c.self.invariant.0 (rw (← c.self.view_is) at c.requires)
    (absent_before _ _ c.args.set c.in_ok-place.place c.len-count.result c.in_ok-place.ensures.ok.0 c.len-count.ensures.len c.if-place-count.false c.in_ok-place.ensures.ok.1)
    (ap length c.states.ensures.value) c.if-reached-self.false c.in_ok-place.ensures.ok.0 c.only_state-only.ensures c.in_ok-place.ensures.ok.1 c.in_ok-place.ensures.ok.2).walk c.in_ok-place.ensures.ok.1

pub invariant_of-self-2 : goal.invariant_of-self-2
invariant_of-self-2 c =
    let absent = absent_before _ _ c.args.set c.in_ok-place.place c.len-count.result c.in_ok-place.ensures.ok.0 c.len-count.ensures.len c.if-place-count.false c.in_ok-place.ensures.ok.1 in
    let here : c.index-as_slice-place.result ≡ get_or c.add.new.sets.keys c.in_ok-place.place [] = get_or_read _ _ _ c.in_ok-place.ensures.ok.1 (rw c.as_slice.ensures.keys at c.index-as_slice-place.is) [] in (
      rw c.note.ensures (IsInterned-kept _ _ _ _ _ c.args.set _ _ c.only_state-only.result c.in_ok-place.place c.self.invariant.0 (rw (← c.self.view_is) at c.requires) absent
          (ap length c.states.ensures.value) c.if-reached-self.false c.in_ok-place.ensures.ok.0 c.only_state-only.ensures c.in_ok-place.ensures.ok.1 c.in_ok-place.ensures.ok.2),
      c.keep.ensures.rows c.add.new.sets.keys (marks_new _ _ _ c.args.set _ absent c.in_ok-place.ensures.ok.0 c.self.invariant.1) c.in_ok-place.ensures.ok.1 (sym (c.states-2.ensures.value ∙ here)),
    )

pub returns-clause-walk : goal.returns-clause-walk
returns-clause-walk c = (invariant_of-self-2 c).0.walk
