use Rattle.std.proofs.Common.{sym}
use Rattle.std.proofs.lemmas.Bool.{iff_false}
use Rattle.cert_check.proofs.RelationLaws.{fine_next, fine_pass}
use Rattle.cert_check.proofs.relation.shows_more.Goals.{then-present-number+then-shows+else-not-shows, then-present-number+else-shows, else-present-number}
use Rattle.cert_check.proofs.relation.shows_more.Goals as goal

pub shows-requires-clause-item : goal.shows-requires-clause-item
shows-requires-clause-item c = c.item_at-item.ensures.item c.args.imp.now (sym c.inputs-inputs.ensures.inputs) (sym c.outputs-outputs.ensures.outputs)

pub items-preserved : goal.items-preserved
items-preserved c =
    elim c.if-present-number.branch [
      | then-present-number+then-shows+else-not-shows w ↦
          fine_next _ _ _ _ _ _ _ _ c.inputs-inputs.ensures.system c.inputs-inputs.ensures.inputs c.outputs-outputs.ensures.outputs
          (w.item_at-item.ensures.item c.args.imp.now (sym c.inputs-inputs.ensures.inputs) (sym c.outputs-outputs.ensures.outputs)) w.item_at-item.ensures.place
          (λ h. w.shows-then-shows.ensures.0 w.if-not-shows.false) c.items.invariant
      | then-present-number+else-shows w ↦
          fine_next _ _ _ _ _ _ _ _ c.inputs-inputs.ensures.system c.inputs-inputs.ensures.inputs c.outputs-outputs.ensures.outputs
          (w.item_at-item.ensures.item c.args.imp.now (sym c.inputs-inputs.ensures.inputs) (sym c.outputs-outputs.ensures.outputs)) w.item_at-item.ensures.place
          (λ h. absurd (iff_false w.shows.ensures w.if-shows.false h)) c.items.invariant
      | else-present-number w ↦ fine_pass c.args.imp.now c.args.spec.now _ _ c.args.present.now _ c.inputs-inputs.ensures.system c.requires.present w.if-present-number.false c.items.invariant
    ]
