use Rattle.std.proofs.Common.{◌≡◌, ◌+◌, take, drop}
use Rattle.lts_shape.specs.Peel.{IsPeeling}
use Rattle.lts_shape.proofs.peel.take_away.Given as goal

abbrev pub invariant-moves : goal.invariant-moves
invariant-moves l = record {
  states : l.search.states ≡ l.lts.states;
  peeling : IsPeeling l.lts (take (l.fn.at + 1) l.fn.search.found) (drop l.m-index l.moves) l.counts.items l.search.found;
}
