use Rattle.lts_base.proofs.SortedMovesLaws.{numbered, unnumbered}
use Rattle.lts_base.proofs.sorted_moves.SortedMoves.put.Goals as goal

pub returns-in_ok-push-in-Some : goal.returns-in_ok-push-in-Some
returns-in_ok-push-in-Some c = rw (← c.self.view_is) (numbered _ _ _ _ _ c.in_ok-push-in-Some.ensures.items c.in-Some.ensures)

pub returns-in_ok-push-in-None : goal.returns-in_ok-push-in-None
returns-in_ok-push-in-None c = rw (← c.self.view_is) (unnumbered _ _ _ _ c.in_ok-push-in-None.ensures.items)
