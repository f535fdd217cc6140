use Rattle.std.proofs.Common.{arith}
use Rattle.std.proofs.lemmas.Bool.{false≢true}
use Rattle.state_sets.proofs.ActLaws.{by_act, none_before, has_at_point}
use Rattle.state_sets.proofs.OfferLaws.{none_has}
use Rattle.state_sets.proofs.offers.has_move.Goals as goal

pub first_from-place-requires : goal.first_from-place-requires
first_from-place-requires c = by_act c.args.lts.now _ _ c.moves_of-moves.ensures.value c.moves_of-moves.ensures.system.sorted

pub returns-then-place-moves : goal.returns-then-place-moves
returns-then-place-moves c = (
  λ t. absurd (false≢true t),
  λ some. absurd (none_has c.args.lts.now _ _ _ _ c.moves_of-moves.ensures.these c.if-place-moves.true
      (λ k d low. none_before _ _ _ c.first_from-place.ensures.point k d low (omega (arith, low, c.first_from-place.ensures.within))) some),
)

pub returns : goal.returns
returns c =
    has_at_point c.args.lts.now _ _ _ _ _ _ c.moves_of-moves.ensures.these (by_act c.args.lts.now _ _ c.moves_of-moves.ensures.value c.moves_of-moves.ensures.system.sorted)
    c.first_from-place.ensures.point c.if-place-moves.false c.is_same.ensures
