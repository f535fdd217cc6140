use Rattle.text_scan.proofs.LineLaws.{lines_of-cut, lines_of-last, has_some}
use Rattle.text_scan.proofs.line.split_line.Goals as goal

pub returns-in-Some-clause-split : goal.returns-in-Some-clause-split
returns-in-Some-clause-split c = lines_of-cut _ _ _ c.in-Some.ensures

pub returns-clause-split : goal.returns-clause-split
returns-clause-split c = lines_of-last _ (has_some _ c.if-is_empty.ensures) c.in_default.ensures
