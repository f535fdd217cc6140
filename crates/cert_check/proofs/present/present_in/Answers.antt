use Rattle.std.proofs.Common.{◌≡◌, ◌+◌, arith}
use Rattle.lts_base.specs.System.{label_count}
use Rattle.cert_check.proofs.PresentLaws.{ArePresent-none, ArePresent-more, ArePresent-all}
use Rattle.cert_check.proofs.present.present_in.Goals as goal

pub states-init : goal.states-init
states-init c =
    let same : c.inputs.result + c.outputs.result ≡ label_count c.args.lts.now = omega (arith, c.inputs.ensures.inputs, c.outputs.ensures.outputs) in
    ArePresent-none c.args.lts.now _ _ _ _ same (c.in_ok-present.ensures.items_if_clones_equal (λ y e. e)) c.in_ok-push.ensures.items

pub states-preserved : goal.states-preserved
states-preserved c = ArePresent-more c.args.lts.now _ _ _ _ _ c.states-test.true c.mark_labels.ensures c.states.invariant

pub returns : goal.returns
returns c = ArePresent-all c.args.lts.now _ _ _ c.states-test.false c.states.invariant
