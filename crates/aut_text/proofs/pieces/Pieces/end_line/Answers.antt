use Rattle.std.proofs.Common.{◌∷◌, [], ◌++◌, List, ℕ, sym, subst, append_assoc, refl}
use Rattle.text_scan.proofs.ListingLaws.{refused}
use Rattle.aut_text.specs.Shown.{IsShownOrMemory}
use Rattle.aut_text.specs.Pieces.{IsRead}
use Rattle.aut_text.proofs.PieceLaws.{IsRead-line, line_fault, or_more}
use Rattle.aut_text.proofs.pieces.Pieces.end_line.Goals as goal

pub returns-in_err-line-clause-read : goal.returns-in_err-line-clause-read
returns-in_err-line-clause-read c lacks content read =
    refused _ _ _ _ c.from_residual.ensures.1
    (line_fault content c.args.rest.now (record { standing = c.self.inside.progress; kept = c.self.inside.line }) c.in_err-line.field-0.0 (subst (IsRead content) (sym c.self.view_is) read) (c.if-is_empty.ensures.yes refl) lacks c.in_err-line.ensures)

pub returns-then-is_empty-clause-read : goal.returns-then-is_empty-clause-read
returns-then-is_empty-clause-read c lacks content read =
    IsRead-line content c.args.rest.now (record { standing = c.self.inside.progress; kept = c.self.inside.line }) c.line.new.self (subst (IsRead content) (sym c.self.view_is) read) (c.if-is_empty.ensures.yes refl) lacks c.in_ok-line.ensures

pub returns-in_err-add-clause-read : goal.returns-in_err-add-clause-read
returns-in_err-add-clause-read c lacks content read =
    refused _ _ _ _ c.from_residual-in_err-add.ensures.1
    (subst (λ (t : List ℕ). IsShownOrMemory t c.in_err-add.field-0.0) (append_assoc content c.args.rest.now (10 ∷ [])) (or_more (content ++ c.args.rest.now) (10 ∷ []) c.in_err-add.field-0.0 (c.in_err-add.ensures.read lacks content read)))

pub returns-in_err-close-clause-read : goal.returns-in_err-close-clause-read
returns-in_err-close-clause-read c lacks content read =
    refused _ _ _ _ c.from_residual-in_err-close.ensures.1
    (subst (λ (t : List ℕ). IsShownOrMemory t c.in_err-close.field-0.0) (append_assoc content c.args.rest.now (10 ∷ [])) (c.in_err-close.ensures.read (content ++ c.args.rest.now) (c.in_ok-add.ensures.read lacks content read)))

pub returns-clause-read : goal.returns-clause-read
returns-clause-read c lacks content read =
    subst (λ (t : List ℕ). IsRead t c.close.new.self) (append_assoc content c.args.rest.now (10 ∷ [])) (c.in_ok-close.ensures.read (content ++ c.args.rest.now) (c.in_ok-add.ensures.read lacks content read))
