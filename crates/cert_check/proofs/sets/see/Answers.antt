use Rattle.std.proofs.Common.{◌∙◌}
use Rattle.lts_base.proofs.FindLaws.{IsReaching-more, IsReaching-all}
use Rattle.cert_check.proofs.sets.see.Goals as goal

pub states-preserved : goal.states-preserved
states-preserved c = record {
  states = c.in_ok-step.ensures.states ∙ c.states.invariant.states;
  reaching = IsReaching-more _ _ _ _ _ _ c.states-test.true c.in_ok-step.ensures.adds c.states.invariant.reaching;
}

pub returns-clause-seen : goal.returns-clause-seen
returns-clause-seen c = IsReaching-all _ _ _ _ c.states-test.false c.states.invariant.reaching
