use Rattle.std.proofs.Common.{arith, ℕ, List, map, subst, sym, ◌∙◌}
use Rattle.std.specs.List.Sorted.{IsPermutation}
use Rattle.std.proofs.lemmas.List.{length-map}
use Rattle.std.proofs.lemmas.List.Sorted.{IsPermutation-trans, length_permutation}
use Rattle.lts_base.specs.Numbered.{AreNumbersOf, renumbered}
use Rattle.lts_base.proofs.SortingLaws.{labels_below, AreMovesFor-renumbered}
use Rattle.lts_base.proofs.sorting.system_of.Goals as goal

pub moves_over-requires : goal.moves_over-requires
moves_over-requires c =
    let texts = c.as_slice.ensures ∙ c.labels.ensures.labels in
    let numbers : AreNumbersOf c.args.labels.now c.args.raw.now.labels c.in_ok-numbers.numbers.items =
    subst (λ (ts : List (List ℕ)). AreNumbersOf c.args.labels.now ts c.in_ok-numbers.numbers.items) texts c.in_ok-numbers.ensures in
    rw (c.moves.ensures.moves, c.deref.ensures.value)
    (labels_below _ _ _ _ (sym numbers.long) c.labels.ensures.raw.moves)

pub returns-in-Ok-clause-ok : goal.returns-in-Ok-clause-ok
returns-in-Ok-clause-ok c =
    let texts = c.as_slice.ensures ∙ c.labels.ensures.labels in
    let numbers : AreNumbersOf c.args.labels.now c.args.raw.now.labels c.in_ok-numbers.numbers.items =
    subst (λ (ts : List (List ℕ)). AreNumbersOf c.args.labels.now ts c.in_ok-numbers.numbers.items) texts c.in_ok-numbers.ensures in
    let low = labels_below _ _ _ _ (sym numbers.long) c.labels.ensures.raw.moves in
    let moves = AreMovesFor-renumbered c.args.labels.now c.args.raw.now c.in_ok-numbers.numbers.items numbers low in
    let given : IsPermutation (map (renumbered c.in_ok-numbers.numbers.items) c.args.raw.now.moves) c.in_ok-moves.moves =
    rw (c.moves.ensures.moves, c.deref.ensures.value) at c.in_ok-moves.ensures in
    record {
      states = c.in-Ok.ensures.ok.states ∙ c.states.ensures.states;
      start = c.in-Ok.ensures.ok.start ∙ c.start.ensures.start;
      inputs = c.in-Ok.ensures.ok.inputs;
      outputs = c.in-Ok.ensures.ok.outputs;
      divergence = c.in-Ok.ensures.ok.divergence;
      moves = (_, moves, IsPermutation-trans _ _ _ given c.in-Ok.ensures.moves);
    }

pub build-requires : goal.build-requires
build-requires c =
    let given : IsPermutation (map (renumbered c.in_ok-numbers.numbers.items) c.args.raw.now.moves) c.in_ok-moves.moves =
    rw (c.moves.ensures.moves, c.deref.ensures.value) at c.in_ok-moves.ensures in
    omega (arith, length_permutation _ _ given, length-map c.args.raw.now.moves (renumbered c.in_ok-numbers.numbers.items), c.labels.ensures.raw.few)
