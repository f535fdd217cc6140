use Rattle.std.proofs.Common.{◌≡◌, ◌+◌, ◌∙◌, arith}
use Rattle.std.proofs.lemmas.Bool.{iff_false}
use Rattle.lts_base.specs.System.{label_count}
use Rattle.state_sets.proofs.MaskLaws.{row_quiet, row_loud}
use Rattle.state_sets.proofs.masks.mark_state.Goals as goal

pub returns-then-is_quiet : goal.returns-then-is_quiet
returns-then-is_quiet c =
    let e : c.inputs.result + c.outputs.result ≡ label_count c.args.lts.now = omega (arith, c.inputs.ensures.inputs, c.outputs.ensures.outputs) in
    row_quiet c.args.lts.now c.args.state _ _ (c.set_bit.ensures.long ∙ c.mark_labels.ensures.long ∙ c.clear_bits.ensures.long ∙ c.requires.long)
    (c.is_quiet.ensures.0 c.if-is_quiet.true) (rw e at c.set_bit.ensures.bits) c.mark_labels.ensures.bits

pub returns-else-is_quiet : goal.returns-else-is_quiet
returns-else-is_quiet c =
    row_loud c.args.lts.now c.args.state _ c.inputs.ensures.system (c.mark_labels.ensures.long ∙ c.clear_bits.ensures.long ∙ c.requires.long)
    (iff_false c.is_quiet.ensures c.if-is_quiet.false) c.mark_labels.ensures.bits
