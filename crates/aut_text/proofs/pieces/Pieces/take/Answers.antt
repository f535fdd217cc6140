use Rattle.std.proofs.Common.{◌++◌, List, ℕ, subst}
use Rattle.text_scan.proofs.ListingLaws.{refused}
use Rattle.aut_text.specs.Shown.{IsShownOrMemory}
use Rattle.aut_text.specs.Pieces.{IsRead}
use Rattle.aut_text.proofs.PieceLaws.{IsTaken-step, taken_fault, taken_all}
use Rattle.aut_text.proofs.pieces.Pieces.take.Goals as goal

pub loop-line-preserved : goal.loop-line-preserved
loop-line-preserved c =
    let cut = c.in-Some.ensures in
    IsTaken-step _ _ _ _ _ _ _ c.loop-line.invariant cut (λ content read. c.in_ok-end_line.ensures.read cut.first content read) c.in_ok-end_line.ensures.number

pub returns-in_err-end_line-clause-read : goal.returns-in_err-end_line-clause-read
returns-in_err-end_line-clause-read c content read =
    let taken = c.loop-line.invariant in
    let cut = c.in-Some.ensures in
    refused _ _ _ _ c.from_residual.ensures.1 (taken_fault _ _ _ _ _ _ content c.in_err-end_line.field-0.0 taken cut (c.in_err-end_line.ensures.read cut.first (content ++ taken.done) (taken.read content read)))

pub returns-in_err-add-clause-read : goal.returns-in_err-add-clause-read
returns-in_err-add-clause-read c content read =
    let taken = c.loop-line.invariant in
    refused _ _ _ _ c.from_residual-in_err-add.ensures.1 (subst (λ (t : List ℕ). IsShownOrMemory t c.in_err-add.field-0.0) (taken_all _ _ _ _ content taken) (c.in_err-add.ensures.read c.in_default.ensures (content ++ taken.done) (taken.read content read)))

pub returns-clause-read : goal.returns-clause-read
returns-clause-read c content read =
    let taken = c.loop-line.invariant in
    subst (λ (t : List ℕ). IsRead t c.add.new.self) (taken_all _ _ _ _ content taken) (c.in_ok-add.ensures.read c.in_default.ensures (content ++ taken.done) (taken.read content read))
