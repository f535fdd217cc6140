use Rattle.cert_check.proofs.OfferLaws.{Gives-output}
use Rattle.cert_check.proofs.offers.gives.Goals as goal

pub returns-in-Output : goal.returns-in-Output
returns-in-Output c = rw c.in-Output.is (Gives-output c.args.side.now _ _ _ (rw c.in-Output.is at c.requires.item) (rw c.lts.ensures at c.has_move.ensures))
