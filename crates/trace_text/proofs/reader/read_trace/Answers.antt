use Rattle.trace_text.proofs.OnceLaws.{trace_only, refuses_only}
use Rattle.trace_text.proofs.reader.read_trace.Goals as goal

pub returns-clause-only : goal.returns-clause-only
returns-clause-only c = λ σ is. trace_only c.args.labels.now c.args.bytes.now σ _ c.inputs.ensures.alphabet c.read_lines.ensures.read is

pub returns-clause-fault : goal.returns-clause-fault
returns-clause-fault c = λ n fault. refuses_only c.args.labels.now c.args.bytes.now n _ c.read_lines.ensures.read fault
