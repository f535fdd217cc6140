use Rattle.std.proofs.Common.{arith}
use Rattle.cmd_outs.proofs.TakenLaws.{kept_none, kept_stay, kept_drop, kept_all}
use Rattle.cmd_outs.proofs.taken.keep_held.Goals.{then-index-fronts, else-index-fronts}
use Rattle.cmd_outs.proofs.taken.keep_held.Goals as goal

pub labels-init : goal.labels-init
labels-init c = kept_none c.args.mode c.args.lts.now c.args.set.now _ c.requires.taken

pub labels-preserved : goal.labels-preserved
labels-preserved c =
    let low = c.labels-test.true in
    let inputs = c.inputs.ensures.inputs in
    let outputs = c.outputs.ensures.outputs in
    elim c.if-index-fronts.branch [
      | then-index-fronts w ↦ rw w.taken-is (kept_drop c.args.mode c.args.lts.now c.args.set.now c.labels.label _ _ _ _ (omega (arith, low, inputs, outputs)) c.index.ensures w.if-index-fronts.true c.in_ok-fronts.ensures c.labels.invariant)
      | else-index-fronts w ↦ rw w.taken-is (kept_stay c.args.mode c.args.lts.now c.args.set.now c.labels.label _ _ _ _ (omega (arith, low, inputs, outputs)) c.index.ensures w.if-index-fronts.false c.in_ok-fronts.ensures c.labels.invariant)
    ]

pub returns : goal.returns
returns c =
    let past = c.labels-test.false in
    let inputs = c.inputs.ensures.inputs in
    let outputs = c.outputs.ensures.outputs in
    kept_all c.args.mode c.args.lts.now c.args.set.now c.labels.label _ (omega (arith, past, inputs, outputs)) c.labels.invariant
