use Rattle.std.proofs.Common.{sym, subst}
use Rattle.std.proofs.lemmas.Bool.{iff_false}
use Rattle.cert_text.specs.Numbers.{IsNumber}
use Rattle.cert_text.proofs.PieceLaws.{piece_of, number_free}
use Rattle.cert_text.proofs.listing.next_number.Goals as goal

pub returns-then-not-is_number-clause-number : goal.returns-then-not-is_number-clause-number
returns-then-not-is_number-clause-number c n ns number is =
    let (same, rest) = piece_of _ _ _ n ns c.in-Some.ensures.piece (number_free n number) is in
    iff_false c.is_number.ensures c.if-not-is_number.true (subst IsNumber (sym same) number)
