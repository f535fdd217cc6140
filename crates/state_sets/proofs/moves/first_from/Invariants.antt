use Rattle.state_sets.specs.Places.{ComeBefore}
use Rattle.state_sets.proofs.moves.first_from.Given as goal

abbrev pub invariant-places : goal.invariant-places
invariant-places l = ComeBefore l.moves l.act l.place
