use Rattle.std.proofs.Common.{length}
use Rattle.log_text.proofs.ReadLaws.{IsReading}
use Rattle.log_text.proofs.reader.read_lines.Given as goal

abbrev pub invariant-loop-line : goal.invariant-loop-line
invariant-loop-line l = IsReading l.bytes l.done l.stage l.rest l.number

abbrev pub decreases-loop-line : goal.decreases-loop-line
decreases-loop-line l = length l.rest
