use Rattle.lts_base.proofs.SortedMovesLaws.{put_in_turn}
use Rattle.lts_base.proofs.sorted_moves.sort_and_put.Goals as goal

pub returns-clause-moves : goal.returns-clause-moves
returns-clause-moves c = put_in_turn _ _ _ _ _ c.sort_unstable.ensures.permutation c.deref.ensures.value c.in_ok-put_all.ensures
