use Rattle.std.proofs.Common.{◌≡◌, length, arith}
use Rattle.lts_base.specs.System.{label_count}
use Rattle.cmd_outs.proofs.OfferLaws.{shown_printable, allowed_printable}
use Rattle.cmd_outs.proofs.offers.printed.Goals as goal

pub offers_text-requires-clause-shown : goal.offers_text-requires-clause-shown
offers_text-requires-clause-shown c =
    let inputs = c.count.ensures.alphabet.inputs in
    let count : label_count c.args.lts.now ≡ length c.args.labels.now.texts = omega (arith, c.requires.over.inputs, c.requires.over.outputs, inputs) in
    rw c.as_slice.ensures (shown_printable c.args.lts.now c.args.set.now _ c.in_ok-shown.shown count c.states.ensures.system c.in_ok-shown.ensures.each)

pub offers_text-requires-clause-inputs : goal.offers_text-requires-clause-inputs
offers_text-requires-clause-inputs c =
    let inputs = c.count.ensures.alphabet.inputs in
    let count : label_count c.args.lts.now ≡ length c.args.labels.now.texts = omega (arith, c.requires.over.inputs, c.requires.over.outputs, inputs) in
    rw c.as_slice-2.ensures (allowed_printable c.args.mode c.args.lts.now c.args.set.now _ c.in_ok-inputs.inputs count c.in_ok-inputs.ensures.each)

pub returns : goal.returns
returns c =
    let says = c.in_ok-text.ensures in
    (c.in_ok-shown.shown, c.in_ok-inputs.inputs, c.in_ok-shown.ensures, c.in_ok-inputs.ensures, rw (c.states-4.ensures.value, c.as_slice.ensures, c.as_slice-2.ensures) at says)
