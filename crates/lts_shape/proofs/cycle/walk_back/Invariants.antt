use Rattle.std.proofs.Common.{◌≡◌, ◌<◌, ◌-◌, length, get_or}
use Rattle.lts_shape.specs.Cycle.{IsTrail}
use Rattle.lts_shape.proofs.cycle.walk_back.Given as goal

abbrev pub invariant-steps : goal.invariant-steps
invariant-steps l = record {
  states : l.search.states ≡ l.lts.states;
  state : l.state < l.lts.states;
  count : 0 < get_or l.counts l.state 0;
  trail : IsTrail l.lts l.search.found l.state;
}

abbrev pub decreases-steps : goal.decreases-steps
decreases-steps l = l.search.states - length l.search.found
