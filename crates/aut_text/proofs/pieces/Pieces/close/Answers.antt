use Rattle.std.proofs.Common.{List, ℕ, sym, subst}
use Rattle.text_scan.proofs.ListingLaws.{refused}
use Rattle.aut_text.specs.Pieces.{IsRead}
use Rattle.aut_text.specs.Reading.{Steps, IsNextFault}
use Rattle.aut_text.proofs.PieceLaws.{IsRead-close, close_fault}
use Rattle.aut_text.proofs.pieces.Pieces.close.Goals as goal

pub returns-in_err-line-clause-read : goal.returns-in_err-line-clause-read
returns-in_err-line-clause-read c content read =
    refused _ _ _ _ c.from_residual.ensures.1
    (close_fault content (record { standing = c.self.inside.progress; kept = c.self.inside.line }) c.in_err-line.field-0.0 (subst (IsRead content) (sym c.self.view_is) read)
    (subst (λ (t : List ℕ). IsNextFault c.self.inside.progress t c.in_err-line.field-0.0) c.bytes.ensures c.in_err-line.ensures))

pub returns-clause-read : goal.returns-clause-read
returns-clause-read c content read =
    rw (c.clear.ensures)
    (IsRead-close content (record { standing = c.self.inside.progress; kept = c.self.inside.line }) c.line.new.self (subst (IsRead content) (sym c.self.view_is) read)
    (subst (λ (t : List ℕ). Steps c.self.inside.progress t c.line.new.self) c.bytes.ensures c.in_ok-line.ensures))
