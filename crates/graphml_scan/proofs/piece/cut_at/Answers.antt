use Rattle.std.proofs.Common.{sym}
use Rattle.graphml_scan.proofs.PieceLaws.{cut_found, cut_none}
use Rattle.graphml_scan.proofs.piece.cut_at.Goals as goal

pub returns-in-None : goal.returns-in-None
returns-in-None c = sym (cut_none _ _ c.in-None.ensures)

pub returns-in-Some : goal.returns-in-Some
returns-in-Some c = sym (cut_found _ _ _ _ c.in-Some.ensures)
