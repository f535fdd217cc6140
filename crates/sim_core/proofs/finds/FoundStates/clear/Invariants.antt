use Rattle.std.proofs.Common.{◌≡◌, ◌≤◌, length, vec_capacity}
use Rattle.lts_base.specs.Finds.{IsMarked}
use Rattle.sim_core.proofs.finds.FoundStates.clear.Given as goal

abbrev pub invariant-finds : goal.invariant-finds
invariant-finds l =
    (length l.self-inside.marked.items ≡ l.fn.self.states) × IsMarked l.self-inside.marked.items l.self-inside.found.items × (length l.self-inside.marked.items ≤ vec_capacity l.self-inside.found)

abbrev pub decreases-finds : goal.decreases-finds
decreases-finds l = length l.self-inside.found.items
