use Rattle.std.proofs.Common.{rules, List, ℕ, ◌≡◌, ◌∙◌, ◌+◌, ◌<◌, ◌++◌, [], ◌∷◌, length, take, replicate, false, true, set, sym, ap, arith}
use Rattle.std.proofs.lemmas.List.{take_more, length-map}
use Rattle.std.specs.Borrow.{Bor}
use Rattle.lts_base.specs.Numbered.{shown}
use Rattle.lts_base.proofs.FlagLaws.{flags_hit, flags_miss, flags_none}
use Rattle.lts_base.proofs.sorting.listed_flags.Goals as goal
use Rattle.lts_base.proofs.sorting.listed_flags.Goals.{in-Some, in_default}

pub loop-line-init : goal.loop-line-init
loop-line-init c =
    let none : c.in_ok-flags.flags.items ≡ replicate (length c.args.texts.now) false = search rules in
    flags_none (shown c.args.texts.now) c.in_ok-flags.flags.items (length c.args.texts.now) (sym (length-map c.args.texts.now _)) none

pub loop-line-preserved : goal.loop-line-preserved
loop-line-preserved c =
    let more : take (c.loop-line.line + 1) c.args.inputs.now ≡ take c.loop-line.line c.args.inputs.now ++ c.get.result.now ∷ [] =
    take_more c.args.inputs.now c.loop-line.line [] (omega (arith, c.loop-line-test.true, c.len-line-end.ensures)) ∙ ap (λ (t : List ℕ). take c.loop-line.line c.args.inputs.now ++ t ∷ []) (sym c.get.ensures) in
    rw more (elim c.match-place_of.branch [
      | in-Some w ↦
          let inside : w.in-Some.place < length (shown c.args.texts.now) = omega (arith, w.in-Some.ensures.0, length-map c.args.texts.now (λ (t : Bor (List ℕ)). t.now)) in
          let is : c.match-place_of.flags.items ≡ set c.loop-line.flags.items w.in-Some.place true = search rules in
          is ∙ flags_hit (shown c.args.texts.now) (take c.loop-line.line c.args.inputs.now) c.loop-line.flags.items w.in-Some.place c.get.result.now c.requires inside w.in-Some.ensures.1 c.loop-line.invariant
      | in_default w ↦
          let is : c.match-place_of.flags.items ≡ c.loop-line.flags.items = search rules in
          is ∙ flags_miss (shown c.args.texts.now) (take c.loop-line.line c.args.inputs.now) c.loop-line.flags.items c.get.result.now w.in_default.ensures c.loop-line.invariant
    ])
