use Rattle.std.proofs.Common.{sym, arith}
use Rattle.std.proofs.lemmas.List.{take_all}
use Rattle.line_link.proofs.line_buffer.front_of.Goals as goal

pub returns-else-bytes-gt-MOST_HEARD_BYTES : goal.returns-else-bytes-gt-MOST_HEARD_BYTES
returns-else-bytes-gt-MOST_HEARD_BYTES c = sym (take_all 1025 c.args.bytes.now (omega (arith, c.if-bytes-gt-MOST_HEARD_BYTES.false)))
