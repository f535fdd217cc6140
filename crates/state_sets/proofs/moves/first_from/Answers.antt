use Rattle.std.proofs.Common.{◌+◌, sym, ◌∙◌, arith}
use Rattle.std.proofs.lemmas.List.{take_rest}
use Rattle.std.proofs.lemmas.Bool.{false≢true}
use Rattle.std.proofs.lemmas.Bool.Decides.{Decides-ltb}
use Rattle.state_sets.proofs.ActLaws.{point_at, point_in_rest}
use Rattle.state_sets.proofs.moves.first_from.Goals as goal

pub returns-then-not-is_before-clause-point : goal.returns-then-not-is_before-clause-point
returns-then-not-is_before-clause-point c =
    point_at _ _ _ _ c.requires (omega arith)
    (λ lt. false≢true (sym c.if-not-is_before.true ∙ c.is_before.ensures ∙ (Decides-ltb _ _).1 lt)) c.places.invariant

pub returns-clause-point : goal.returns-clause-point
returns-clause-point c =
    point_in_rest _ _ _ _ _ (take_rest c.args.moves.now (c.start_at-from.result + c.min.result)) (λ k d low. c.places.invariant k d (omega (arith, low, c.places-test.false))) c.by_halves.ensures.point
