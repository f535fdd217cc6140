use Rattle.cmd_outs.specs.Taken.{AreFlags, IsAmong, IsMarked}
use Rattle.cmd_outs.proofs.taken.mark.Given as goal

abbrev pub invariant-moves : goal.invariant-moves
invariant-moves l = AreFlags l.lts (IsMarked (IsAmong l.moves l.m-index) l.fn.taken.items) l.taken.items
