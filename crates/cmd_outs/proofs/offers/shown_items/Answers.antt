use Rattle.std.proofs.Common.{◌∙◌, refl}
use Rattle.std.proofs.lemmas.Bool.{false≢true}
use Rattle.cmd_outs.proofs.OfferLaws.{shown_delta, shown_outputs}
use Rattle.cmd_outs.proofs.offers.shown_items.Goals.{then-shows+in_ok-push, else-shows}
use Rattle.cmd_outs.proofs.offers.shown_items.Goals as goal

pub returns : goal.returns
returns c = elim c.if-shows.branch [
  | then-shows+in_ok-push w ↦ rw (w.items-is ∙ w.in_ok-push.ensures.ok) (shown_delta c.args.lts.now c.args.set.now c.in_ok-items.items c.states.ensures.system c.in_ok-items.ensures (w.if-shows.ensures.set.0 refl))
  | else-shows w ↦ rw w.items-is (shown_outputs c.args.lts.now c.args.set.now c.in_ok-items.items c.in_ok-items.ensures (λ h. false≢true (w.if-shows.ensures.set.1 h)))
]
