use Rattle.std.proofs.Common.{◌≡◌}
use Rattle.cert_check.specs.Quiet.{AreQuiet}
use Rattle.cert_check.proofs.side.quiet_states.Given as goal

abbrev pub invariant-states : goal.invariant-states
invariant-states l = record {
  marks : l.marks.states ≡ l.lts.states;
  quiet : AreQuiet l.lts l.state l.quiet.items;
}
