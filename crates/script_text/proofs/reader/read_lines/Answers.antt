use Rattle.std.proofs.Common.{subst}
use Rattle.script_text.specs.Reading.{AddsChoice}
use Rattle.script_text.proofs.ReadLaws.{IsRead-step}
use Rattle.script_text.proofs.reader.read_lines.Goals as goal

pub loop-line-preserved : goal.loop-line-preserved
loop-line-preserved c = IsRead-step _ _ _ _ _ _ _ _ c.loop-line.invariant c.in-Some.ensures.split (subst (λ t. AddsChoice c.args.labels.now c.loop-line.script t c.add.new.script) c.without_cr.ensures c.in_ok-add.ensures)
