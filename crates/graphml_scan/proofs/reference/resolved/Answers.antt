use Rattle.std.proofs.Common.{sym, rules}
use Rattle.graphml_scan.proofs.ReferenceLaws.{plain_text}
use Rattle.graphml_scan.proofs.reference.resolved.Goals as goal

pub returns-then-plain : goal.returns-then-plain
returns-then-plain c = sym (plain_text _ (search rules))
