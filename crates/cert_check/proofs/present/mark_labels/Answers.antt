use Rattle.cert_check.proofs.PresentLaws.{IsMarking-none, IsMarking-tau, IsMarking-label, IsMarking-all, label_below}
use Rattle.std.proofs.Common.{arith}
use Rattle.cert_check.proofs.present.mark_labels.Goals.{in-Tau, in-Label}
use Rattle.cert_check.proofs.present.mark_labels.Goals as goal

pub moves-init : goal.moves-init
moves-init c = IsMarking-none _ _

pub moves-preserved : goal.moves-preserved
moves-preserved c =
    elim c.match-m.branch [
      | in-Tau w ↦ rw w.present-is (IsMarking-tau _ _ _ _ _ c.moves-test.true w.in-Tau.is c.moves.invariant)
      | in-Label w ↦
          let low = label_below c.args.lts.now c.args.state _ _ _ _ c.moves_of-moves.ensures.system c.moves_of-moves.ensures.these c.moves-test.true w.in-Label.is in
          rw w.present-is (IsMarking-label _ _ _ _ _ _ c.moves-test.true w.in-Label.is (omega (arith, low, c.moves.invariant.long, c.requires.long)) c.moves.invariant)
    ]

pub returns : goal.returns
returns c = IsMarking-all c.args.lts.now _ _ _ _ _ c.moves_of-moves.ensures.these c.moves-test.false c.moves.invariant
