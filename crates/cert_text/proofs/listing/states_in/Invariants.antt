use Rattle.std.proofs.Common.{length}
use Rattle.cert_text.proofs.ListingLaws.{AreRead}
use Rattle.cert_text.proofs.listing.states_in.Given as goal

abbrev pub invariant-loop-piece : goal.invariant-loop-piece
invariant-loop-piece l = AreRead l.bound l.text l.rest l.states

abbrev pub decreases-loop-piece : goal.decreases-loop-piece
decreases-loop-piece l = length l.rest
