use Rattle.std.proofs.Common.{arith}
use Rattle.cert_text.proofs.ListingLaws.{piece_number, AreRead-large, AreRead-step, AreRead-all}
use Rattle.cert_text.proofs.listing.states_in.Goals as goal

pub below-requires : goal.below-requires
below-requires c = (piece_number _ _ _ c.loop-piece.invariant.numbers c.in-Some.ensures.piece).0

pub returns-in_default-below : goal.returns-in_default-below
returns-in_default-below c = AreRead-large _ _ _ _ _ _ (omega arith) c.loop-piece.invariant c.in-Some.ensures.piece c.in_default-below.ensures

pub loop-piece-preserved : goal.loop-piece-preserved
loop-piece-preserved c = rw c.in_ok-push.ensures.ok (AreRead-step _ _ _ _ _ _ _ c.loop-piece.invariant c.in-Some.ensures.piece c.in-Some-below.ensures.0 c.in-Some-below.ensures.1)

pub returns : goal.returns
returns c = AreRead-all _ _ _ _ c.loop-piece.invariant c.in_default.ensures.piece
