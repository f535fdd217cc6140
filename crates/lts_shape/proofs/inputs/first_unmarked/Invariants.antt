use Rattle.std.proofs.Common.{◌≡◌, ℕ, ◌<◌, true, false, get_or}
use Rattle.lts_shape.proofs.inputs.first_unmarked.Given as goal

abbrev pub invariant-states : goal.invariant-states
invariant-states l = (q : ℕ) → q < l.state → get_or l.here q false ≡ true → get_or l.there q false ≡ true
