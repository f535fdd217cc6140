use Rattle.std.proofs.Common.{◌≡◌, ◌-◌, ◌≤◌, [], length, take}
use Rattle.lts_shape.specs.Peel.{IsPeeling}
use Rattle.lts_shape.proofs.peel.peel.Given as goal

abbrev pub invariant-finds : goal.invariant-finds
invariant-finds l = record {
  states : l.search.states ≡ l.lts.states;
  within : l.at ≤ length l.search.found;
  peeling : IsPeeling l.lts (take l.at l.search.found) [] l.counts.items l.search.found;
}

abbrev pub decreases-finds : goal.decreases-finds
decreases-finds l = l.search.states - l.at
