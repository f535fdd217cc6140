use Rattle.std.proofs.Common.{Bool, ◌∙◌, List, ℕ, [], true, map, sym, ap, subst, arith}
use Rattle.std.specs.Borrow.{Bor}
use Rattle.std.proofs.lemmas.Simd.{map-map}
use Rattle.std.proofs.lemmas.List.{take_all, get_or-map, length-map}
use Rattle.lts_base.specs.Alphabet.{IsLabel}
use Rattle.lts_base.specs.Numbered.{is_side, marked_side}
use Rattle.lts_base.proofs.sorting.marked_flags.Goals as goal

pub marked_side-requires : goal.marked_side-requires
marked_side-requires c =
    let read = get_or-map (λ (t : Bor (List ℕ)). t.now) c.args.texts.now c.loop-text.text-index (record { ref_ptr = (0, 0); now = [] }) [] c.loop-text-test.true in
    let label = c.requires c.loop-text.text-index [] (omega (arith, c.loop-text-test.true, length-map c.args.texts.now (λ (t : Bor (List ℕ)). t.now))) in
    (subst IsLabel read label).some

pub returns : goal.returns
returns c =
    let f : List ℕ → Bool = λ t. is_side true (marked_side c.args.rule.now t) in
    c.loop-text.invariant ∙ ap (map (λ (t : Bor (List ℕ)). f t.now)) (take_all c.loop-text.text-index c.args.texts.now c.loop-text-test.false) ∙
    sym (map-map f (λ (t : Bor (List ℕ)). t.now) c.args.texts.now)
