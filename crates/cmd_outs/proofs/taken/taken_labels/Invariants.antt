use Rattle.cmd_outs.specs.Taken.{AreFlags, IsTakenBelow}
use Rattle.cmd_outs.proofs.taken.taken_labels.Given as goal

abbrev pub invariant-states : goal.invariant-states
invariant-states l = AreFlags l.lts (IsTakenBelow l.lts l.set l.state-index) l.taken.items
