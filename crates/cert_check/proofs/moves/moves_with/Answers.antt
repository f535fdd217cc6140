use Rattle.cert_check.proofs.RunLaws.{by_place, by_place-drop, run_of, rest_is}
use Rattle.cert_check.proofs.moves.moves_with.Goals as goal

pub first_from-requires : goal.first_from-requires
first_from-requires c = by_place c.args.lts.now c.args.state _ c.moves_of-moves.ensures.system.sorted c.moves_of-moves.ensures.value c.moves_of-moves.ensures.these

pub first_from-requires-2 : goal.first_from-requires-2
first_from-requires-2 c =
    rw (rest_is c.moves_of-moves.result.now c.first_from.result)
    (by_place-drop _ _ (by_place c.args.lts.now c.args.state _ c.moves_of-moves.ensures.system.sorted c.moves_of-moves.ensures.value c.moves_of-moves.ensures.these))

pub returns : goal.returns
returns c =
    let short = rw (rest_is c.moves_of-moves.result.now c.first_from.result) at c.first_from-2.ensures.within in
    let high = rw (rest_is c.moves_of-moves.result.now c.first_from.result) at c.first_from-2.ensures.point in
    rw (rest_is c.moves_of-moves.result.now c.first_from.result)
    (run_of c.args.lts.now c.args.state c.place_of-place.result _ _ c.args.act _ c.moves_of-moves.ensures.system c.moves_of-moves.ensures.these c.place_of-place.ensures.value c.first_from.ensures.within short c.first_from.ensures.point high)
