use Rattle.std.proofs.Common.{sym}
use Rattle.std.proofs.lemmas.List.{take_rest}
use Rattle.graphml_scan.proofs.PieceLaws.{text_found, text_none}
use Rattle.graphml_scan.proofs.piece.cut_text.Goals as goal

pub returns-in-None : goal.returns-in-None
returns-in-None c = sym (text_none _ _ c.requires c.in-None.ensures)

pub returns-in-Some : goal.returns-in-Some
returns-in-Some c = rw take_rest (sym (text_found _ _ _ c.requires c.in-Some.ensures.0 c.in-Some.ensures.1))
