use Rattle.std.proofs.Common.{◌∙◌}
use Rattle.lts_shape.proofs.PeelLaws.{AreZeros-add, AreZeros-skip}
use Rattle.lts_shape.proofs.peel.find_first.Goals.{then-counts-state-eq0+in_ok-add, else-counts-state-eq0}
use Rattle.lts_shape.proofs.peel.find_first.Goals as goal

pub states-preserved : goal.states-preserved
states-preserved c =
    elim c.if-counts-state-eq0.branch [
      | then-counts-state-eq0+in_ok-add w ↦ rw w.search-is (record {
        states = w.in_ok-add.ensures.states ∙ c.states.invariant.states;
        zeros = AreZeros-add _ _ _ _ w.if-counts-state-eq0.true w.in_ok-add.ensures.added c.states.invariant.zeros;
      })
      | else-counts-state-eq0 w ↦ rw w.search-is (record {
        states = c.states.invariant.states;
        zeros = AreZeros-skip _ _ _ w.if-counts-state-eq0.false c.states.invariant.zeros;
      })
    ]
