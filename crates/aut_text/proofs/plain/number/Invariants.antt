use Rattle.std.proofs.Common.{length}
use Rattle.aut_text.proofs.PlainLaws.{AreDigits}
use Rattle.aut_text.proofs.plain.number.Given as goal

abbrev pub invariant-loop-rest : goal.invariant-loop-rest
invariant-loop-rest l = AreDigits l.bytes l.rest l.value

abbrev pub decreases-loop-rest : goal.decreases-loop-rest
decreases-loop-rest l = length l.rest
