use Rattle.std.proofs.Common.{length}
use Rattle.script_text.proofs.ReadLaws.{IsRead}
use Rattle.script_text.proofs.reader.read_lines.Given as goal

abbrev pub invariant-loop-line : goal.invariant-loop-line
invariant-loop-line l = IsRead l.labels l.bytes l.rest l.script l.number

abbrev pub decreases-loop-line : goal.decreases-loop-line
decreases-loop-line l = length l.rest
