use Rattle.std.proofs.Common.{arith}
use Rattle.text_scan.proofs.LineLaws.{few_lines}
use Rattle.tool_base.proofs.load.load_cert.Goals as goal

pub read_cert-requires : goal.read_cert-requires
read_cert-requires g c = let short = c.in_ok-content.ensures.loaded.1 in rw c.as_slice.ensures omega (arith, few_lines c.in_ok-content.content, short)
