use Rattle.std.proofs.Common.{length, ◌≤◌}
use Rattle.aut_text.proofs.plain.cut_digits.Given as goal

abbrev pub invariant-loop-front : goal.invariant-loop-front
invariant-loop-front l = length l.front ≤ length l.bytes

abbrev pub decreases-loop-front : goal.decreases-loop-front
decreases-loop-front l = length l.front
