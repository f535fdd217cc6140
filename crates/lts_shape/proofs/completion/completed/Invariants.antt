use Rattle.std.proofs.Common.{◌≡◌}
use Rattle.lts_shape.specs.Angelic.{AreLoopsUpTo}
use Rattle.lts_shape.proofs.completion.completed.Given as goal

abbrev pub invariant-inputs : goal.invariant-inputs
invariant-inputs l = record {
  states : l.search.states ≡ l.lts.states;
  loops : AreLoopsUpTo l.lts l.input 0 l.moves;
}
