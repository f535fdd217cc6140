use Rattle.std.proofs.Common.{◌∙◌, sym}
use Rattle.graphml_scan.proofs.ReferenceLaws.{large_stays}
use Rattle.graphml_scan.proofs.reference.number_in.Goals as goal

pub returns-then-number-ge1114112 : goal.returns-then-number-ge1114112
returns-then-number-ge1114112 c = sym (large_stays _ _ _ c.requires.some c.if-number-ge1114112.true) ∙ c.loop-byte.invariant
