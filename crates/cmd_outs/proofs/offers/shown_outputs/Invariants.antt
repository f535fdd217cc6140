use Rattle.lts_base.specs.System.{label_count}
use Rattle.cmd_outs.specs.Followed.{ShowsOutput}
use Rattle.cmd_outs.proofs.OfferLaws.{AreItemsBelow}
use Rattle.cmd_outs.proofs.offers.shown_outputs.Given as goal

abbrev pub invariant-labels : goal.invariant-labels
invariant-labels l = AreItemsBelow (ShowsOutput l.lts l.set) (label_count l.lts) l.label l.items
