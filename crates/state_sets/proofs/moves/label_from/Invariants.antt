use Rattle.state_sets.proofs.ActLaws.{IsLeastAmong}
use Rattle.state_sets.proofs.moves.label_from.Given as goal

abbrev pub invariant-states : goal.invariant-states
invariant-states l = IsLeastAmong l.lts l.set l.from l.least l.state-index
