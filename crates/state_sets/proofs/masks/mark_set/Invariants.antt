use Rattle.state_sets.proofs.MaskLaws.{IsRowOfFirst}
use Rattle.state_sets.proofs.masks.mark_set.Given as goal

abbrev pub invariant-states : goal.invariant-states
invariant-states l = IsRowOfFirst l.lts l.set l.row l.state-index
