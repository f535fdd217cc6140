use Rattle.std.proofs.Common.{ap, arith}
use Rattle.edge_io.proofs.LinkLaws.{KeepsLink-none, KeepsLink-then, LinkFails-before}
use Rattle.sim_core.specs.declared.serving.ServedTurn.TheVariants.{Ended}
use Rattle.sim_core.proofs.ServeLaws.{served_none, served_took, served_gave, served_waited, served_spent, served_ended}
use Rattle.sim_core.proofs.serving.serve_over.Goals.{in-Took, in-Gave, in-Waited}
use Rattle.sim_core.proofs.serving.serve_over.Goals as goal

pub loop-init : goal.loop-init
loop-init g c = record { served = served_none g.K.Link.gives g.R.NextWord.step _; later = KeepsLink-none _; few = omega arith; small = omega arith }

pub loop-preserved : goal.loop-preserved
loop-preserved g c =
    let later = KeepsLink-then c.loop.invariant.later c.serve_turn.ensures.later in
    let few = c.loop.invariant.few in
    let small = c.loop.invariant.small in
    elim c.match-serve_turn.branch [
      | in-Took w ↦ rw (w.inputs-is, w.outputs-is) (record {
        served = served_took g.K.Link.gives g.R.NextWord.step _ _ _ c.loop.inputs c.loop.outputs c.loop.counter c.loop.invariant.served w.in-Took.ensures.turn;
        later = later;
        few = omega (arith, few);
        small = omega (arith, small);
      })
      | in-Gave w ↦ rw (w.inputs-is, w.outputs-is) (record {
        served = served_gave g.K.Link.gives g.R.NextWord.step _ _ _ c.loop.inputs c.loop.outputs c.loop.counter c.loop.invariant.served w.in-Gave.ensures.turn;
        later = later;
        few = omega (arith, few);
        small = omega (arith, small);
      })
      | in-Waited w ↦ rw (w.inputs-is, w.outputs-is) (record {
        served = served_waited g.K.Link.gives g.R.NextWord.step _ _ _ c.loop.inputs c.loop.outputs c.loop.counter c.loop.invariant.served w.in-Waited.ensures.turn;
        later = later;
        few = omega (arith, few);
        small = omega (arith, small);
      })
    ]

pub overflow_add-inputs : goal.overflow_add-inputs
overflow_add-inputs g c = omega (arith, c.loop.invariant.few, c.loop-test.true, c.ranges.most.fits)

pub overflow_add-outputs : goal.overflow_add-outputs
overflow_add-outputs g c = omega (arith, c.loop.invariant.small, c.loop-test.true, c.ranges.most.fits)

pub returns-in-Ended-clause-served : goal.returns-in-Ended-clause-served
returns-in-Ended-clause-served g c =
    served_ended g.K.Link.gives g.R.NextWord.step _ _ _ c.loop.inputs c.loop.outputs c.loop.counter c.args.most c.in-Ended.end c.loop-test.true c.loop.invariant.served c.in-Ended.ensures.turn

pub returns-in-Ended-clause-fault : goal.returns-in-Ended-clause-fault
returns-in-Ended-clause-fault g c = λ same. LinkFails-before c.loop.invariant.later (c.in-Ended.ensures.fault (ap Ended same))

pub returns-in-Ended-clause-later : goal.returns-in-Ended-clause-later
returns-in-Ended-clause-later g c = KeepsLink-then c.loop.invariant.later c.serve_turn.ensures.later

pub returns-clause-served : goal.returns-clause-served
returns-clause-served g c = served_spent g.K.Link.gives g.R.NextWord.step _ _ c.loop.inputs c.loop.outputs c.loop.counter c.args.most (omega (arith, c.loop.auto.counter-end, c.loop-test.false)) c.loop.invariant.served

pub returns-clause-later : goal.returns-clause-later
returns-clause-later g c = c.loop.invariant.later
