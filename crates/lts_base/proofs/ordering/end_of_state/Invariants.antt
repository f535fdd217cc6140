use Rattle.std.proofs.Common.{length, ◌-◌, ◌<◌, ◌≤◌}
use Rattle.lts_base.proofs.ordering.end_of_state.Given as goal

abbrev pub invariant-loop-to : goal.invariant-loop-to
invariant-loop-to l = (l.from < l.to) × (l.to ≤ length l.moves)

abbrev pub decreases-loop-to : goal.decreases-loop-to
decreases-loop-to l = length l.moves - l.to
