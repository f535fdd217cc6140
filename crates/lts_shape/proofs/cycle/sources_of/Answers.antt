use Rattle.lts_shape.proofs.CycleLaws.{AreSources-read, AreSources-zero, AreSources-label}
use Rattle.lts_shape.proofs.cycle.sources_of.Goals.{in-Tau+then-counts-m-gt0, in-Tau+else-counts-m-gt0, in-Label}
use Rattle.lts_shape.proofs.cycle.sources_of.Goals as goal

pub moves-preserved : goal.moves-preserved
moves-preserved c =
    elim c.match-m.branch [
      | in-Tau+then-counts-m-gt0 w ↦
          rw w.sources-is (AreSources-read _ _ _ _ _ _ c.moves-moves.ensures.system c.moves-moves.ensures.moves c.moves-test.true w.in-Tau.is w.if-counts-m-gt0.true c.moves.invariant)
      | in-Tau+else-counts-m-gt0 w ↦
          rw w.sources-is (AreSources-zero _ _ _ _ _ _ c.moves-moves.ensures.moves c.moves-test.true w.if-counts-m-gt0.false c.moves.invariant)
      | in-Label w ↦
          rw w.sources-is (AreSources-label _ _ _ _ _ _ _ c.moves-moves.ensures.moves c.moves-test.true w.in-Label.is c.moves.invariant)
    ]
