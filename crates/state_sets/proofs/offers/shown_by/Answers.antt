use Rattle.state_sets.proofs.OfferLaws.{Shows-output}
use Rattle.state_sets.proofs.offers.shown_by.Goals as goal

pub returns-in-Output : goal.returns-in-Output
returns-in-Output c = rw c.in-Output.is (Shows-output c.args.lts.now _ _ _ (rw c.in-Output.is at c.requires.item) c.some_takes.ensures)
