use Rattle.std.proofs.Common.{◌≡◌, ℕ, ◌<◌, get_or}
use Rattle.lts_shape.proofs.cycle.first_left.Given as goal

abbrev pub invariant-states : goal.invariant-states
invariant-states l = (k d : ℕ) → k < l.state → get_or l.counts k d ≡ 0
