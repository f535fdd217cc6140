use Rattle.text_scan.proofs.ListingLaws.{refused}
use Rattle.aut_text.proofs.pieces.Pieces.end.Goals as goal

pub returns-in_err-end_last-clause-read : goal.returns-in_err-end_last-clause-read
returns-in_err-end_last-clause-read c content read = refused _ _ _ _ c.from_residual.ensures.1 (c.in_err-end_last.ensures content read)
