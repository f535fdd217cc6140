use Rattle.std.proofs.Common.{◌≡◌}
use Rattle.lts_shape.specs.Peel.{AreZeros}
use Rattle.lts_shape.proofs.peel.find_first.Given as goal

abbrev pub invariant-states : goal.invariant-states
invariant-states l = record {
  states : l.search.states ≡ l.fn.search.states;
  zeros : AreZeros l.counts l.state l.search.found;
}
