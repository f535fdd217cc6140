use Rattle.std.proofs.Common.{◌≤◌}
use Rattle.cmd_outs.specs.Taken.{AllTake, AreFronts}
use Rattle.cmd_outs.proofs.taken.fronts_of.Given as goal

abbrev pub invariant-states : goal.invariant-states
invariant-states l = record {
  few : l.count ≤ l.state-index;
  fronts : AreFronts l.lts l.count (AllTake l.mode l.lts l.set l.state-index) l.fronts.items;
}
