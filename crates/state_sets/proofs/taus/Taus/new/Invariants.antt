use Rattle.state_sets.specs.Taus.{AreTauFlagsTo}
use Rattle.state_sets.proofs.taus.Taus.new.Given as goal

abbrev pub invariant-states : goal.invariant-states
invariant-states l = AreTauFlagsTo l.lts l.state l.flags.items
