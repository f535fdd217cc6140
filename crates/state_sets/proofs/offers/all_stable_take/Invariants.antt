use Rattle.std.proofs.Common.{ℕ, ◌<◌, get_or}
use Rattle.lts_base.specs.System.{IsStable, Takes}
use Rattle.state_sets.proofs.offers.all_stable_take.Given as goal

abbrev pub invariant-states : goal.invariant-states
invariant-states l = (k d : ℕ) → k < l.state-index → IsStable l.lts (get_or l.set k d) → Takes l.lts (get_or l.set k d) l.label
