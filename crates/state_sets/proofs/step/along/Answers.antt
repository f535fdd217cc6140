use Rattle.std.proofs.Common.{◌∙◌}
use Rattle.lts_base.proofs.FindLaws.{IsReaching-more, IsReaching-all}
use Rattle.state_sets.proofs.step.along.Goals as goal

pub states-preserved : goal.states-preserved
states-preserved c = record {
  states = c.in_ok-spread.ensures.states ∙ c.states.invariant.states;
  reaching = IsReaching-more _ _ _ _ _ _ c.states-test.true c.in_ok-spread.ensures.adds c.states.invariant.reaching;
}

pub returns-clause-adds : goal.returns-clause-adds
returns-clause-adds c = IsReaching-all _ _ _ _ c.states-test.false c.states.invariant.reaching
