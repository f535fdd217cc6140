use Rattle.std.proofs.Common.{◌≡◌, ◌≤◌, ◌-◌, length, drop}
use Rattle.session_core.specs.Answered.{toward}
use Rattle.session_core.proofs.guided.next_of.Given as goal

abbrev pub invariant-loop-at : goal.invariant-loop-at
invariant-loop-at l =
    record {
      goal : l.at ≤ length l.goal;
      done : l.at ≤ length l.done;
      rest : toward (drop l.at l.goal) (drop l.at l.done) ≡ toward l.goal l.done;
    }

abbrev pub decreases-loop-at : goal.decreases-loop-at
decreases-loop-at l = length l.goal - l.at
