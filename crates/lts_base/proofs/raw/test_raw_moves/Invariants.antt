use Rattle.std.proofs.Common.{take, map, All}
use Rattle.lts_base.specs.System.{IsMoveOf}
use Rattle.lts_base.specs.Raw.{as_move}
use Rattle.lts_base.proofs.raw.test_raw_moves.Given as goal

abbrev pub invariant-loop-place : goal.invariant-loop-place
invariant-loop-place l = All (IsMoveOf l.states l.labels) (take l.place (map as_move l.moves))
