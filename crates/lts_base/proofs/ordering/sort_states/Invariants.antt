use Rattle.std.proofs.Common.{length, ◌-◌, ◌≡◌}
use Rattle.std.specs.List.Sorted.{IsPermutation}
use Rattle.lts_base.proofs.ordering.sort_states.Given as goal

abbrev pub invariant-loop-from : goal.invariant-loop-from
invariant-loop-from l = IsPermutation l.initial.moves l.moves × (length l.moves ≡ length l.initial.moves)

abbrev pub decreases-loop-from : goal.decreases-loop-from
decreases-loop-from l = length l.initial.moves - l.from
