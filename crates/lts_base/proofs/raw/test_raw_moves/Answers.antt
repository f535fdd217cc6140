use Rattle.std.proofs.Common.{◌≡◌, ◌<◌, ◌≤◌, length, rules, map, get_or, subst, sym, arith, None}
use Rattle.std.proofs.lemmas.List.{get_or-map, length-map}
use Rattle.std.proofs.lemmas.List.Elements.{All-more}
use Rattle.lts_base.specs.declared.raw.RawMove.{RawMove}
use Rattle.lts_base.specs.System.{IsMoveOf}
use Rattle.lts_base.specs.Raw.{as_move}
use Rattle.lts_base.proofs.MoveLaws.{all_from_taken}
use Rattle.lts_base.proofs.raw.test_raw_moves.Goals as goal

abbrev raw_0 : RawMove
raw_0 = record { from = 0; label = None; to = 0 }

pub loop-place-preserved : goal.loop-place-preserved
loop-place-preserved c =
    let inside : c.loop-place.place < length c.args.moves.now = search rules in
    let below : c.loop-place.place < length (map as_move c.args.moves.now) = omega (arith, length-map c.args.moves.now as_move) in
    let same : as_move (get_or c.args.moves.now c.loop-place.place raw_0) ≡ get_or (map as_move c.args.moves.now) c.loop-place.place (as_move raw_0) = sym (get_or-map as_move c.args.moves.now c.loop-place.place raw_0 (as_move raw_0) inside) in
    let here : c.as_move.result ≡ as_move (get_or c.args.moves.now c.loop-place.place raw_0) = search rules in
    All-more (IsMoveOf c.args.states c.args.labels) (map as_move c.args.moves.now) c.loop-place.place (as_move raw_0) below c.loop-place.invariant
    (rw (← same) (subst (IsMoveOf c.args.states c.args.labels) here c.in_ok-test_move.ensures))

pub returns : goal.returns
returns c =
    let all : length c.args.moves.now ≤ c.loop-place.place = search rules in
    all_from_taken (IsMoveOf c.args.states c.args.labels) (map as_move c.args.moves.now) c.loop-place.place (rw (length-map c.args.moves.now as_move) all) c.loop-place.invariant
