use Rattle.std.proofs.Common.{◌∙◌, ◌<◌, arith}
use Rattle.lts_base.specs.System.{label_count}
use Rattle.cmd_outs.proofs.OfferLaws.{inputs_more, inputs_same}
use Rattle.cmd_outs.proofs.TakenLaws.{flag_allows, flag_forbids}
use Rattle.cmd_outs.proofs.offers.allowed_inputs.Goals.{then-held-label+in_ok-push, else-held-label}
use Rattle.cmd_outs.proofs.offers.allowed_inputs.Goals as goal

pub labels-preserved : goal.labels-preserved
labels-preserved c =
    let low = c.labels-test.true in
    let few = c.inputs-label-end.ensures.inputs in
    let below : c.labels.label < label_count c.args.lts.now = omega (arith, low, few) in
    elim c.if-held-label.branch [
      | then-held-label+in_ok-push w ↦
          rw (w.items-is ∙ w.in_ok-push.ensures.ok) (inputs_more c.args.mode c.args.lts.now c.args.set.now c.labels.label c.labels.items c.labels.invariant (omega (arith, low, few))
          (flag_allows c.args.mode c.args.lts.now c.args.set.now _ c.labels.label c.requires below w.if-held-label.true))
      | else-held-label w ↦
          rw w.items-is (inputs_same c.args.mode c.args.lts.now c.args.set.now c.labels.label c.labels.items c.labels.invariant
          (flag_forbids c.args.mode c.args.lts.now c.args.set.now _ c.labels.label c.requires below w.if-held-label.false))
    ]
