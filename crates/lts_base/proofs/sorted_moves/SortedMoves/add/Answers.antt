use Rattle.lts_base.proofs.SortedMovesLaws.{added}
use Rattle.lts_base.proofs.sorted_moves.SortedMoves.add.Goals as goal

pub returns : goal.returns
returns c = added _ _ _ _ c.in_ok-turn_to.ensures c.in_ok-put.ensures
