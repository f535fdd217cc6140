use Rattle.std.proofs.Common.{List, ℕ, sym, subst, refl}
use Rattle.text_scan.proofs.ListingLaws.{refused}
use Rattle.aut_text.specs.Pieces.{IsRead}
use Rattle.aut_text.specs.Reading.{Steps, IsNextFault}
use Rattle.aut_text.proofs.PieceLaws.{last_none, last_line, last_fault}
use Rattle.aut_text.proofs.pieces.Pieces.end_last.Goals as goal

pub returns-then-is_empty : goal.returns-then-is_empty
returns-then-is_empty c content read =
    rw (← c.self.view_is)
    (last_none content (record { standing = c.self.inside.progress; kept = c.self.inside.line }) (subst (IsRead content) (sym c.self.view_is) read) (c.if-is_empty.ensures.yes refl))

pub returns-in_err-line : goal.returns-in_err-line
returns-in_err-line c content read =
    refused _ _ _ _ c.from_residual.ensures.1
    (last_fault content (record { standing = c.self.inside.progress; kept = c.self.inside.line }) c.in_err-line.field-0.0 (subst (IsRead content) (sym c.self.view_is) read) (c.if-is_empty.ensures.no refl)
    (subst (λ (t : List ℕ). IsNextFault c.self.inside.progress t c.in_err-line.field-0.0) c.bytes.ensures c.in_err-line.ensures))

pub returns : goal.returns
returns c content read =
    last_line content (record { standing = c.self.inside.progress; kept = c.self.inside.line }) c.line.new.self (subst (IsRead content) (sym c.self.view_is) read) (c.if-is_empty.ensures.no refl)
    (subst (λ (t : List ℕ). Steps c.self.inside.progress t c.line.new.self) c.bytes.ensures c.in_ok-line.ensures)
