use Rattle.std.proofs.Common.{◌≡◌, length}
use Rattle.graphml_scan.specs.Many.{many}
use Rattle.graphml_scan.specs.Reference.{piece_at, resolved}
use Rattle.graphml_scan.proofs.ReferenceLaws.{with_text}
use Rattle.graphml_scan.proofs.reference.made.Given as goal

abbrev pub invariant-loop-rest : goal.invariant-loop-rest
invariant-loop-rest l = with_text l.text.items (many piece_at l.rest) ≡ resolved l.bytes

abbrev pub decreases-loop-rest : goal.decreases-loop-rest
decreases-loop-rest l = length l.rest
