use Rattle.std.proofs.Common.{◌≡◌, ◌∙◌, ◌<◌, List, ℕ, [], false, get_or, length, sym, arith}
use Rattle.std.specs.Borrow.{Bor}
use Rattle.std.proofs.lemmas.List.{get_or_default, get_or-map, length-map}
use Rattle.lts_base.specs.Alphabet.{text_at}
use Rattle.lts_base.specs.Numbered.{shown}
use Rattle.lts_base.proofs.FlagLaws.{flagged_step}
use Rattle.lts_base.proofs.sorting.sides_of.Goals as goal

pub loop-place-preserved : goal.loop-place-preserved
loop-place-preserved c =
    λ p is.
    let read : text_at (shown c.args.texts.now) c.loop-place.place ≡ _ = get_or-map (λ (t : Bor (List ℕ)). t.now) c.args.texts.now c.loop-place.place (record { ref_ptr = (0, 0); now = [] }) [] c.loop-place-test.true in
    let below : c.loop-place.place < length (shown c.args.texts.now) = omega (arith, c.loop-place-test.true, length-map c.args.texts.now (λ (t : Bor (List ℕ)). t.now)) in
    let flag : get_or c.args.flags.now c.loop-place.place false ≡ get_or c.args.flags.now c.loop-place.place (get_or c.args.flags.now c.loop-place.place false) =
    get_or_default c.args.flags.now c.loop-place.place false _ (omega (arith, c.requires, c.loop-place-test.true)) in
    let step = flagged_step p (shown c.args.texts.now) c.loop-place.sides.inputs.items c.loop-place.sides.outputs.items c.args.flags.now c.loop-place.place (get_or c.args.flags.now c.loop-place.place false) c.from_vec.result below is flag (c.from_vec.ensures ∙ c.in_ok-copy.ensures.items ∙ sym read) (c.loop-place.invariant p is) in
    (c.in_ok-put.ensures.inputs ∙ step.0, c.in_ok-put.ensures.outputs ∙ step.1)
