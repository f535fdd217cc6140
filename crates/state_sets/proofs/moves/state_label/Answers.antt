use Rattle.std.proofs.Common.{refl, inl, inr, arith}
use Rattle.state_sets.proofs.ActLaws.{by_act, least_none, least_some}
use Rattle.state_sets.proofs.moves.state_label.Goals as goal

pub first_from-place-requires : goal.first_from-place-requires
first_from-place-requires c = by_act c.args.lts.now _ _ c.moves_of-moves.ensures.value c.moves_of-moves.ensures.system.sorted

pub returns-then-place-moves : goal.returns-then-place-moves
returns-then-place-moves c =
    least_none c.args.lts.now _ _ _ _ _ c.moves_of-moves.ensures.these c.first_from-place.ensures.point c.if-place-moves.true c.requires.from

pub returns-then-label-most : goal.returns-then-label-most
returns-then-label-most c =
    least_some c.args.lts.now _ _ _ _ _ _ _ _ c.moves_of-moves.ensures.these (by_act c.args.lts.now _ _ c.moves_of-moves.ensures.value c.moves_of-moves.ensures.system.sorted)
    c.first_from-place.ensures.point c.if-place-moves.false c.requires.from c.in-Label.is (inl (refl, omega (arith, c.if-label-most.true)))

pub returns : goal.returns
returns c =
    least_some c.args.lts.now _ _ _ _ _ _ _ _ c.moves_of-moves.ensures.these (by_act c.args.lts.now _ _ c.moves_of-moves.ensures.value c.moves_of-moves.ensures.system.sorted)
    c.first_from-place.ensures.point c.if-place-moves.false c.requires.from c.in-Label.is (inr (refl, c.if-label-most.false))
