use Rattle.std.proofs.Common.{length}
use Rattle.trace_text.proofs.ReadLaws.{IsRead}
use Rattle.trace_text.proofs.reader.read_lines.Given as goal

abbrev pub invariant-loop-line : goal.invariant-loop-line
invariant-loop-line l = IsRead l.labels l.bytes l.rest l.trace l.number

abbrev pub decreases-loop-line : goal.decreases-loop-line
decreases-loop-line l = length l.rest
