use Rattle.std.proofs.Common.{arith}
use Rattle.text_scan.proofs.LineLaws.{few_lines}
use Rattle.tool_base.proofs.load.load_script.Goals as goal

pub read_script-requires : goal.read_script-requires
read_script-requires g c = let short = c.in_ok-content.ensures.loaded.1 in rw c.as_slice.ensures omega (arith, few_lines c.in_ok-content.content, short)
