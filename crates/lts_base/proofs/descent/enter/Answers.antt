use Rattle.std.proofs.Common.{◌≡◌, refl, length, arith}
use Rattle.lts_base.proofs.DescentEnds.{IsDescent-entered, IsDescent-move, IsDescent-label, IsDescent-moved}
use Rattle.lts_base.proofs.descent.enter.Goals.{in-Tau+in_ok-push-in-Tau, in-Label}
use Rattle.lts_base.proofs.descent.enter.Goals as goal

pub moves-init : goal.moves-init
moves-init c =
    let w0 = c.args.descent.now in
    let start : c.len-start.result ≡ length w0.path.items = omega (arith, c.len-start.ensures, w0.path.ok.0) in
    let base : c.len.result ≡ length w0.pending.items = omega (arith, c.len.ensures, w0.pending.ok.0) in
    record {
      places = rw start refl;
      path = c.in_ok-push-2.ensures.items;
      blocks = rw (c.in_ok-push.ensures.items, start, base) refl;
      descent = rw (c.in_ok-push-2.ensures.items, c.in_ok-push.ensures.items, start, base)
          (IsDescent-entered _ _ _ _ _ _ _ _ (record { start = length w0.path.items; base = length w0.pending.items }) refl refl c.requires.state c.requires.new c.requires.leads c.moves_of-moves.ensures.these c.requires.descent);
    }

pub moves-preserved : goal.moves-preserved
moves-preserved c =
    elim c.match-m.branch [
      | in-Tau+in_ok-push-in-Tau w ↦ rw w.descent-is (record {
        places = c.moves.invariant.places;
        path = c.moves.invariant.path;
        blocks = c.moves.invariant.blocks;
        descent = rw w.in_ok-push-in-Tau.ensures.items (IsDescent-move _ _ _ _ _ _ _ _ _ _ _ _ _ _ _ _ _ _ c.moves_of-moves.ensures.system c.moves_of-moves.ensures.these c.moves-test.true w.in-Tau.is refl c.moves.invariant.path c.moves.invariant.blocks refl c.requires.descent c.moves.invariant.descent);
      })
      | in-Label w ↦ rw w.descent-is (record {
        places = c.moves.invariant.places;
        path = c.moves.invariant.path;
        blocks = c.moves.invariant.blocks;
        descent = IsDescent-label _ _ _ _ _ _ _ _ _ _ _ c.moves-test.true w.in-Label.is c.moves.invariant.descent;
      })
    ]

pub returns-clause-descent : goal.returns-clause-descent
returns-clause-descent c = IsDescent-moved _ _ _ _ _ _ _ _ _ c.moves-test.false c.moves.invariant.descent
