use Rattle.std.proofs.Common.{length}
use Rattle.cert_text.specs.Numbers.{IsNumber, value_of}
use Rattle.cert_text.proofs.ListingLaws.{IsHalf}
use Rattle.cert_text.proofs.listing.is_list.Given as goal

abbrev pub invariant-rest : goal.invariant-rest
invariant-rest l = record { half : IsHalf l.text l.rest (value_of l.last); number : IsNumber l.last }

abbrev pub decreases-rest : goal.decreases-rest
decreases-rest l = length l.rest
