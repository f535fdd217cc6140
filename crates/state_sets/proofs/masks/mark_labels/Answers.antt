use Rattle.std.proofs.Common.{◌∙◌, arith}
use Rattle.state_sets.proofs.MaskLaws.{marked_label, marked_tau, marked_all}
use Rattle.state_sets.proofs.masks.mark_labels.Goals.{in-Label, in_default}
use Rattle.state_sets.proofs.masks.mark_labels.Goals as goal

pub moves-preserved : goal.moves-preserved
moves-preserved c =
    elim c.match-moves-place.branch [
      | in-Label w ↦
          rw w.row-is (record {
            long = w.set_bit.ensures.long ∙ c.moves.invariant.long;
            marked = marked_label _ _ _ _ _ _ c.moves-test.true w.in-Label.is w.set_bit.ensures.bits c.moves.invariant.marked;
          })
      | in_default w ↦
          rw w.row-is (record {
            long = c.moves.invariant.long;
            marked = marked_tau _ _ _ _ c.moves-test.true w.in_default.is c.moves.invariant.marked;
          })
    ]

pub returns-clause-bits : goal.returns-clause-bits
returns-clause-bits c = marked_all c.args.lts.now c.args.state _ _ _ c.moves_of-moves.ensures.these (omega (arith, c.moves-test.false, c.moves.auto.place-end)) c.moves.invariant.marked
