use Rattle.std.proofs.Common.{◌≡◌}
use Rattle.lts_base.specs.System.{HasMove}
use Rattle.cert_check.proofs.RunLaws.{IsRunning}
use Rattle.cert_check.proofs.moves.spread.Given as goal

abbrev pub invariant-moves : goal.invariant-moves
invariant-moves l = record {
  states : l.marks.states ≡ l.fn.lts.states;
  running : IsRunning (HasMove l.fn.lts l.fn.state l.fn.act) l.fn.marks.found l.marks.found l.moves l.m-index;
}
