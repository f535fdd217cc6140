use Rattle.graphml_text.proofs.JoinLaws.{near_found}
use Rattle.graphml_text.proofs.moves.add_edge.Goals as goal

pub returns-then-add_move-clause-near : goal.returns-then-add_move-clause-near
returns-then-add_move-clause-near c = near_found _ _ _ c.in-Some.ensures.source

pub returns-clause-near : goal.returns-clause-near
returns-clause-near c = near_found _ _ _ c.in-Some.ensures.source
