use Rattle.state_sets.proofs.BitLaws.{AreCleared}
use Rattle.state_sets.proofs.bits.clear_bits.Given as goal

abbrev pub invariant-words : goal.invariant-words
invariant-words l = AreCleared l.fn.row l.row l.at
