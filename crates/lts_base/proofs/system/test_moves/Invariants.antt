use Rattle.std.proofs.Common.{take, All}
use Rattle.lts_base.specs.System.{IsMoveOf}
use Rattle.lts_base.proofs.system.test_moves.Given as goal

abbrev pub invariant-loop-index : goal.invariant-loop-index
invariant-loop-index l = All (IsMoveOf l.states l.labels) (take l.index l.moves)
