use Rattle.std.proofs.Common.{◌∙◌, ◌<◌, ◌≤◌, arith}
use Rattle.lts_base.specs.System.{label_count}
use Rattle.cmd_outs.proofs.OfferLaws.{outputs_more, outputs_same}
use Rattle.cmd_outs.proofs.TakenLaws.{flag_shows, flag_hides}
use Rattle.cmd_outs.proofs.offers.shown_outputs.Goals.{then-taken-label+in_ok-push, else-taken-label}
use Rattle.cmd_outs.proofs.offers.shown_outputs.Goals as goal

pub labels-preserved : goal.labels-preserved
labels-preserved c =
    let past = c.labels-test.true in
    let inputs = c.inputs.ensures.inputs in
    let outputs = c.outputs.ensures.outputs in
    let first = c.inputs-label.ensures.inputs in
    let low = c.labels.auto.label in
    let below : c.labels.label < label_count c.args.lts.now = omega (arith, past, inputs, outputs) in
    let above : c.args.lts.now.inputs ≤ c.labels.label = omega (arith, low, first) in
    elim c.if-taken-label.branch [
      | then-taken-label+in_ok-push w ↦
          rw (w.items-is ∙ w.in_ok-push.ensures.ok) (outputs_more c.args.lts.now c.args.set.now c.labels.label c.labels.items c.labels.invariant
          (flag_shows c.args.lts.now c.args.set.now _ c.labels.label c.requires above below w.if-taken-label.true))
      | else-taken-label w ↦
          rw w.items-is (outputs_same c.args.lts.now c.args.set.now c.labels.label c.labels.items c.labels.invariant
          (flag_hides c.args.lts.now c.args.set.now _ c.labels.label c.requires below w.if-taken-label.false))
    ]
