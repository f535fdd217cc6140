use Rattle.lts_shape.specs.Angelic.{AreLoopsUpTo}
use Rattle.lts_shape.proofs.completion.add_loops.Given as goal

abbrev pub invariant-states : goal.invariant-states
invariant-states l = AreLoopsUpTo l.lts l.input l.state l.moves
