use Rattle.cmd_outs.specs.Taken.{AreFlags}
use Rattle.cmd_outs.proofs.TakenLaws.{IsKept}
use Rattle.cmd_outs.proofs.taken.keep_held.Given as goal

abbrev pub invariant-labels : goal.invariant-labels
invariant-labels l = AreFlags l.lts (IsKept l.fn.mode l.lts l.set l.label) l.taken.items
