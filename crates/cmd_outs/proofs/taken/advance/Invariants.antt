use Rattle.cmd_outs.specs.Taken.{IsAdvanced, IsAmong}
use Rattle.cmd_outs.proofs.taken.advance.Given as goal

abbrev pub invariant-moves : goal.invariant-moves
invariant-moves l = IsAdvanced l.lts l.count (IsAmong l.moves l.m-index) l.fn.fronts.items l.fronts.items
