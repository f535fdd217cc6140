use Rattle.std.proofs.Common.{◌≡◌}
use Rattle.lts_base.specs.System.{IsQuiet}
use Rattle.lts_base.proofs.FindLaws.{IsReaching}
use Rattle.state_sets.proofs.step.rest.Given as goal

abbrev pub invariant-states : goal.invariant-states
invariant-states l = record {
  states : l.search.states ≡ l.fn.lts.states;
  reaching : IsReaching (λ p r. IsQuiet l.fn.lts p × (p ≡ r)) l.set l.search.found l.state-index;
}
