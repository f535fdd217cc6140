use Rattle.state_sets.proofs.BitLaws.{AreJoined}
use Rattle.state_sets.proofs.bits.join_bits.Given as goal

abbrev pub invariant-words : goal.invariant-words
invariant-words l = AreJoined l.fn.row l.other l.row l.at
