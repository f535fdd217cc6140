use Rattle.std.proofs.Common.{◌≤◌, ◌<◌, length, ◌∙◌, arith}
use Rattle.lts_base.proofs.FindLaws.{IsClosing-none, IsClosing-more, IsClosing-all}
use Rattle.state_sets.proofs.step.close.Goals as goal

pub finds-init : goal.finds-init
finds-init c = record {
  states = c.requires.states;
  closing = IsClosing-none _ _;
}

pub finds-preserved : goal.finds-preserved
finds-preserved c =
    let below : c.finds.at < length c.finds.search.found = omega (arith, c.finds-test.true, c.len.ensures.value) in
    record {
      states = c.in_ok-spread_tau.ensures.states ∙ c.finds.invariant.states;
      closing = IsClosing-more _ _ _ _ _ _ below c.at-state.ensures.value c.in_ok-spread_tau.ensures.adds c.finds.invariant.closing;
    }

pub returns-clause-closure : goal.returns-clause-closure
returns-clause-closure c =
    let over : length c.finds.search.found ≤ c.finds.at = omega (arith, c.finds-test.false, c.len.ensures.value) in
    IsClosing-all _ _ _ _ over c.finds.invariant.closing
