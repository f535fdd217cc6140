use Rattle.state_sets.proofs.BitLaws.{joined_all}
use Rattle.state_sets.proofs.bits.join_bits.Goals as goal

pub returns-clause-bits : goal.returns-clause-bits
returns-clause-bits c = joined_all _ _ _ _ c.words-test.false c.requires c.words.invariant
