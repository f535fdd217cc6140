use Rattle.std.proofs.Common.{subst}
use Rattle.trace_text.specs.Reading.{AddsItem}
use Rattle.trace_text.proofs.ReadLaws.{IsRead-step, IsRead-short}
use Rattle.trace_text.proofs.reader.read_lines.Goals as goal

pub loop-line-preserved : goal.loop-line-preserved
loop-line-preserved c = IsRead-step _ _ _ _ _ _ _ _ c.loop-line.invariant c.in-Some.ensures.split (subst (λ t. AddsItem c.args.labels.now c.loop-line.trace t c.add.new.trace) c.without_cr.ensures c.in_ok-add.ensures)

pub returns-clause-items : goal.returns-clause-items
returns-clause-items c = (c.loop-line.invariant.items, IsRead-short _ _ _ _ _ c.loop-line.invariant)
