use Rattle.std.proofs.lemmas.Bool.{iff_false}
use Rattle.text_scan.proofs.LineLaws.{has_some}
use Rattle.cert_text.proofs.NumberLaws.{fails, holds}
use Rattle.cert_text.proofs.PieceLaws.{is_empty, piece_of, number_free}
use Rattle.cert_text.proofs.ListingLaws.{IsHalf-none, IsHalf-step, IsHalf-all, IsHalf-fault}
use Rattle.cert_text.proofs.listing.is_list.Goals as goal

pub rest-init : goal.rest-init
rest-init c = record { half = IsHalf-none _ _ _ c.in-Some.ensures.number.0 c.in-Some.ensures.number.1; number = c.in-Some.ensures.number.1 }

pub returns-in_default-next_number : goal.returns-in_default-next_number
returns-in_default-next_number c = fails (IsHalf-fault _ _ _ c.rest.invariant.half (has_some _ c.rest-test.ensures) (λ n ns number is less. c.in_default-next_number.ensures.number n ns number is))

pub returns-then-not-is_less : goal.returns-then-not-is_less
returns-then-not-is_less c = fails (IsHalf-fault _ _ _ c.rest.invariant.half (has_some _ c.rest-test.ensures) (λ n ns number is less.
    let (same, back) = piece_of _ _ _ n ns c.in-Some-next_number.ensures.number.0 (number_free n number) is in
    iff_false c.is_less.ensures c.if-not-is_less.true (rw same less)))

pub rest-preserved : goal.rest-preserved
rest-preserved c = record {
  half = IsHalf-step _ _ _ _ _ c.rest.invariant.half c.in-Some-next_number.ensures.number.0 c.in-Some-next_number.ensures.number.1 (c.is_less.ensures.0 c.if-not-is_less.false);
  number = c.in-Some-next_number.ensures.number.1;
}

pub returns : goal.returns
returns c = holds (IsHalf-all _ _ _ c.rest.invariant.half (is_empty _ c.rest-test.ensures))
