use Rattle.std.proofs.Common.{◌≡◌}
use Rattle.lts_base.specs.declared.action.Act.TheVariants.{Label}
use Rattle.lts_base.specs.System.{HasMove}
use Rattle.lts_base.proofs.FindLaws.{IsReaching}
use Rattle.state_sets.proofs.step.along.Given as goal

abbrev pub invariant-states : goal.invariant-states
invariant-states l = record {
  states : l.search.states ≡ l.fn.lts.states;
  reaching : IsReaching (λ p r. HasMove l.fn.lts p (Label l.fn.label) r) l.set l.search.found l.state-index;
}
