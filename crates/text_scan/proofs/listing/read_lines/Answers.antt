use Rattle.std.proofs.Common.{◌+◌, subst}
use Rattle.text_scan.specs.Listing.{AddsText, IsTextFault}
use Rattle.text_scan.proofs.ListingLaws.{IsListed-step, IsListed-fault, refused}
use Rattle.text_scan.proofs.listing.read_lines.Goals as goal

pub loop-line-preserved : goal.loop-line-preserved
loop-line-preserved c = IsListed-step _ _ _ _ _ _ _ c.loop-line.invariant c.in-Some.ensures.split (subst (λ t. AddsText c.loop-line.texts t c.add.new.texts) c.without_cr-text.ensures c.in_ok-add.ensures)

pub returns-in_err-add : goal.returns-in_err-add
returns-in_err-add c = refused _ _ _ _ c.from_residual.ensures.1 (IsListed-fault _ _ _ c.in-Some.after.now _ _ _ c.loop-line.invariant c.in-Some.ensures.split (subst (λ t. IsTextFault t (c.loop-line.number + 1) c.in_err-add.field-0.0) c.without_cr-text.ensures c.in_err-add.ensures))
