use Rattle.std.proofs.Common.{◌≡◌, length, ap, arith}
use Rattle.std.proofs.lemmas.List.Elements.{All-contains}
use Rattle.lts_base.specs.Alphabet.{IsLabel}
use Rattle.lts_base.specs.Sorting.{all_labels}
use Rattle.lts_base.proofs.SortingLaws.{alphabet_from_flags}
use Rattle.lts_base.proofs.sorting.labels_of.Goals as goal

pub input_flags-requires-clause-labels : goal.input_flags-requires-clause-labels
input_flags-requires-clause-labels c =
    let h = c.in_ok-texts.ensures.ok in
    rw c.deref.ensures.value (λ k d below. All-contains IsLabel (all_labels c.args.raw.now) _ h.labels (h.each k d below))

pub overflow_cast-count : goal.overflow_cast-count
overflow_cast-count c =
    let whole = alphabet_from_flags c.args.rule.now c.args.raw.now c.in_ok-texts.texts.items c.deref.result.now c.deref-2.result.now c.in_ok-inputs.field-0.inputs.items c.in_ok-inputs.field-0.outputs.items
    c.in_ok-flags.flags.items c.deref-3.result.now c.in_ok-texts.ensures.ok c.deref.ensures.value c.in_ok-flags.ensures c.deref-2.ensures.value c.deref-3.ensures.value c.in_ok-inputs.ensures in
    let count : length c.as_slice-count.result.now ≡ length c.in_ok-inputs.field-0.inputs.items = ap length c.as_slice-count.ensures.value in
    omega (arith, count, whole.alphabet.inputs, whole.alphabet.few)

pub from_parts-requires : goal.from_parts-requires
from_parts-requires c =
    let whole = alphabet_from_flags c.args.rule.now c.args.raw.now c.in_ok-texts.texts.items c.deref.result.now c.deref-2.result.now c.in_ok-inputs.field-0.inputs.items c.in_ok-inputs.field-0.outputs.items
    c.in_ok-flags.flags.items c.deref-3.result.now c.in_ok-texts.ensures.ok c.deref.ensures.value c.in_ok-flags.ensures c.deref-2.ensures.value c.deref-3.ensures.value c.in_ok-inputs.ensures in
    let count : length c.as_slice-count.result.now ≡ length c.in_ok-inputs.field-0.inputs.items = ap length c.as_slice-count.ensures.value in
    rw (c.in_ok-append.ensures.items, count) whole.alphabet

pub returns-clause-ok : goal.returns-clause-ok
returns-clause-ok c =
    let whole = alphabet_from_flags c.args.rule.now c.args.raw.now c.in_ok-texts.texts.items c.deref.result.now c.deref-2.result.now c.in_ok-inputs.field-0.inputs.items c.in_ok-inputs.field-0.outputs.items
    c.in_ok-flags.flags.items c.deref-3.result.now c.in_ok-texts.ensures.ok c.deref.ensures.value c.in_ok-flags.ensures c.deref-2.ensures.value c.deref-3.ensures.value c.in_ok-inputs.ensures in
    let count : length c.as_slice-count.result.now ≡ length c.in_ok-inputs.field-0.inputs.items = ap length c.as_slice-count.ensures.value in
    rw (c.from_parts.ensures, c.in_ok-append.ensures.items, count) whole
