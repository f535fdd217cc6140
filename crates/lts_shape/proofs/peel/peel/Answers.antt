use Rattle.std.proofs.Common.{◌≤◌, length, ◌∙◌, arith}
use Rattle.lts_shape.proofs.PeelLaws.{IsPeeling-none, IsPeeled-from_all}
use Rattle.lts_shape.proofs.peel.peel.Goals as goal

pub finds-init : goal.finds-init
finds-init c = record {
  states = c.in_ok-find_first.ensures.states ∙ c.in_ok-search.ensures.states ∙ c.states-states.ensures.states;
  within = omega arith;
  peeling = IsPeeling-none _ _ _ c.in_ok-counts.ensures (rw (c.deref.ensures.value, c.states-states.ensures.states) at c.in_ok-find_first.ensures.found);
}

pub returns : goal.returns
returns c =
    let over : length c.finds.search.found ≤ c.finds.at = omega (arith, c.finds-test.false, c.len.ensures.value) in
    IsPeeled-from_all _ _ _ _ c.states-states.ensures.system over c.finds.invariant.peeling
