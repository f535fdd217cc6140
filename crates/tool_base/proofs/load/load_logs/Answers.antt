use Rattle.std.proofs.Common.{arith}
use Rattle.text_scan.proofs.LineLaws.{few_lines}
use Rattle.tool_base.proofs.load.load_logs.Goals as goal

pub read_logs-requires : goal.read_logs-requires
read_logs-requires g c = let short = c.in_ok-content.ensures.loaded.1 in rw c.as_slice.ensures omega (arith, few_lines c.in_ok-content.content, short)
