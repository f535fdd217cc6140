-- Private: what a text that is resolved piece by piece takes on.
use Rattle.std.specs.Prelude.{◌≡◌, ℕ, List, ◌++◌, Option, Some, None}
use Rattle.graphml_scan.specs.Reference.{piece_at}

-- the new text has what the front of the bytes stands for at its end, and the rest comes after that; or nothing stands there
abbrev pub Pushes : List ℕ → List ℕ → List ℕ → Option (List ℕ) → Type 0
Pushes old new bytes None = piece_at bytes ≡ None
Pushes old new bytes (Some rest) = (piece : List ℕ) × (piece_at bytes ≡ Some (piece, rest)) × (new ≡ old ++ piece)
