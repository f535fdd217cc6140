-- Laws on names.
use Rattle.std.proofs.Common.{ℕ, List, Some, None}
use Rattle.graphml_scan.specs.Piece.{cut_at}

-- what follows the first colon of the rest of a name, or the name
abbrev pub local_in : List ℕ → List ℕ → List ℕ
local_in name rest = elim (cut_at 58 rest) [ None ↦ name | Some cut ↦ cut.1 ]
