use Rattle.std.proofs.Common.{length}
use Rattle.text_scan.proofs.ListingLaws.{IsListed}
use Rattle.text_scan.proofs.listing.read_lines.Given as goal

abbrev pub invariant-loop-line : goal.invariant-loop-line
invariant-loop-line l = IsListed l.bytes l.rest l.texts l.number

abbrev pub decreases-loop-line : goal.decreases-loop-line
decreases-loop-line l = length l.rest
