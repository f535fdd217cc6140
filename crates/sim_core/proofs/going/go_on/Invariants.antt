use Rattle.std.proofs.Common.{◌<◌, List}
use Rattle.lts_base.specs.declared.action.Move.{Move}
use Rattle.sim_core.specs.Simulated.{Goes}
use Rattle.sim_core.proofs.GoLaws.{HasLeft}
use Rattle.sim_core.proofs.going.go_on.Given as goal

abbrev pub invariant-loop-m : goal.invariant-loop-m
invariant-loop-m g l =
    record {
      inside : l.state < l.lts.states;
      left : HasLeft l.lts l.left l.state;
      goes : (ms : List Move) × Goes g.R.NextWord.step l.lts l.among (record { at = l.from; rng = l.fn.rng }) ms (record { at = l.state; rng = l.rng });
    }

abbrev pub decreases-loop-m : goal.decreases-loop-m
decreases-loop-m g l = l.left
