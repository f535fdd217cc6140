use Rattle.std.proofs.Common.{◌≡◌}
use Rattle.lts_base.specs.Path.{IsSeen}
use Rattle.lts_base.proofs.FindLaws.{IsReaching}
use Rattle.cert_check.proofs.sets.see.Given as goal

abbrev pub invariant-states : goal.invariant-states
invariant-states l = record {
  states : l.marks.states ≡ l.fn.side.states;
  reaching : IsReaching (λ p r. IsSeen l.fn.side p l.fn.item r) l.list l.marks.found l.state-index;
}
