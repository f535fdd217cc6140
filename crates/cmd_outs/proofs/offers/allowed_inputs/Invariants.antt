use Rattle.lts_base.specs.System.{label_count}
use Rattle.cmd_outs.specs.Outs.{AllowsInput}
use Rattle.cmd_outs.proofs.OfferLaws.{AreItemsBelow}
use Rattle.cmd_outs.proofs.offers.allowed_inputs.Given as goal

abbrev pub invariant-labels : goal.invariant-labels
invariant-labels l = AreItemsBelow (AllowsInput l.fn.mode l.lts l.set) (label_count l.lts) l.label l.items
