use Rattle.std.proofs.Common.{ℕ, ◌<◌, get_or}
use Rattle.lts_base.specs.System.{IsQuiet}
use Rattle.state_sets.proofs.offers.some_is_quiet.Given as goal

abbrev pub invariant-states : goal.invariant-states
invariant-states l = (k d : ℕ) → k < l.state-index → IsQuiet l.lts (get_or l.set k d) → ⊥
