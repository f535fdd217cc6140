use Rattle.script_text.proofs.OnceLaws.{script_only}
use Rattle.script_text.proofs.reader.read_script.Goals as goal

pub returns-clause-only : goal.returns-clause-only
returns-clause-only c = λ s is. script_only c.args.labels.now c.args.bytes.now s _ c.inputs.ensures.alphabet c.read_lines.ensures is
