use Rattle.std.proofs.Common.{◌≡◌, length}
use Rattle.graphml_scan.specs.Piece.{local_name}
use Rattle.graphml_scan.proofs.NameLaws.{local_in}
use Rattle.graphml_scan.proofs.piece.local_name.Given as goal

abbrev pub invariant-loop-rest : goal.invariant-loop-rest
invariant-loop-rest l = local_in l.name l.rest ≡ local_name l.name

abbrev pub decreases-loop-rest : goal.decreases-loop-rest
decreases-loop-rest l = length l.rest
