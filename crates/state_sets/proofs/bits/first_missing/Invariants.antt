use Rattle.std.proofs.Common.{◌-◌}
use Rattle.state_sets.proofs.BitLaws.{IsAgreed}
use Rattle.state_sets.proofs.bits.first_missing.Given as goal

abbrev pub invariant-words : goal.invariant-words
invariant-words l = IsAgreed l.row l.other l.from l.place

abbrev pub decreases-words : goal.decreases-words
decreases-words l = l.most - l.place
