use Rattle.std.proofs.Common.{◌∙◌, refl}
use Rattle.lts_shape.proofs.PeelLaws.{IsPeeling-take, IsPeeling-lower, IsPeeling-skip, IsPeeling-counted, IsPeeling-more, read_move_of}
use Rattle.lts_shape.proofs.peel.take_away.Goals.{in-Tau+in_ok-lower-in-Tau, in-Label}
use Rattle.lts_shape.proofs.peel.take_away.Goals as goal

pub moves-init : goal.moves-init
moves-init c = record {
  states = c.requires.states;
  peeling = rw c.moves_of-moves.ensures.value (IsPeeling-take _ _ _ _ _ c.requires.at c.at-state.ensures.value c.requires.peeling);
}

pub lower-requires-clause-count : goal.lower-requires-clause-count
lower-requires-clause-count c =
    let ends = read_move_of c.args.lts.now _ _ _ _ c.moves_of-moves.ensures.system c.moves_of-moves.ensures.these c.moves-test.true in
    IsPeeling-counted _ _ _ _ _ _ _ _ c.moves-test.true c.in-Tau.is refl ends.to c.moves.invariant.peeling

pub moves-preserved : goal.moves-preserved
moves-preserved c =
    elim c.match-m.branch [
      | in-Tau+in_ok-lower-in-Tau w ↦
          let ends = read_move_of c.args.lts.now _ _ _ _ c.moves_of-moves.ensures.system c.moves_of-moves.ensures.these c.moves-test.true in
          rw (w.counts-is, w.search-is) (record {
            states = w.in_ok-lower-in-Tau.ensures.states ∙ c.moves.invariant.states;
            peeling = IsPeeling-lower _ _ _ _ _ _ _ _ _ _ c.moves-test.true w.in-Tau.is refl ends.to w.in_ok-lower-in-Tau.ensures.counts w.in_ok-lower-in-Tau.ensures.found c.moves.invariant.peeling;
          })
      | in-Label w ↦ rw (w.counts-is, w.search-is) (record {
        states = c.moves.invariant.states;
        peeling = IsPeeling-skip _ _ _ _ _ _ _ _ c.moves-test.true w.in-Label.is c.moves.invariant.peeling;
      })
    ]

pub returns-clause-peeling : goal.returns-clause-peeling
returns-clause-peeling c = (IsPeeling-more _ _ _ _ _ _ _ c.requires.at c.moves-test.false c.moves.invariant.peeling).0

pub returns-clause-at : goal.returns-clause-at
returns-clause-at c = (IsPeeling-more _ _ _ _ _ _ _ c.requires.at c.moves-test.false c.moves.invariant.peeling).1
