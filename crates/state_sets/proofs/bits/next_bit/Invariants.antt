use Rattle.std.proofs.Common.{◌-◌}
use Rattle.state_sets.proofs.BitLaws.{IsPassed}
use Rattle.state_sets.proofs.bits.next_bit.Given as goal

abbrev pub invariant-words : goal.invariant-words
invariant-words l = IsPassed l.row l.from l.place

abbrev pub decreases-words : goal.decreases-words
decreases-words l = l.most - l.place
