use Rattle.std.proofs.Common.{arith}
use Rattle.text_scan.proofs.LineLaws.{few_lines}
use Rattle.tool_base.proofs.load.listed.Goals as goal

pub read_list-requires : goal.read_list-requires
read_list-requires c = omega (arith, few_lines c.args.content.now, c.requires)
