use Rattle.std.proofs.Common.{length}
use Rattle.aut_text.proofs.PieceLaws.{IsTaken}
use Rattle.aut_text.proofs.pieces.Pieces.take.Given as goal

abbrev pub invariant-loop-line : goal.invariant-loop-line
invariant-loop-line l = IsTaken l.fn.self l.piece l.rest l.self

abbrev pub decreases-loop-line : goal.decreases-loop-line
decreases-loop-line l = length l.rest
