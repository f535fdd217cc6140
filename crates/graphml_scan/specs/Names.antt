-- Private: the set of the names of attributes.
use Rattle.std.specs.Prelude.{◌≡◌, ℕ, Bool, true, false, List, [], ◌∷◌, ◌++◌}
use Rattle.std.specs.List.{list_any}
use Rattle.std.specs.Str.{bytes_eq}

-- the name is among the names
abbrev pub is_among : List (List ℕ) → List ℕ → Bool
is_among names name = list_any (bytes_eq name) names

-- the new names are the old ones and this one, if it is new
abbrev pub AddsName : List (List ℕ) → List (List ℕ) → List ℕ → Bool → Type 0
AddsName old new name true = (is_among old name ≡ false) × (new ≡ old ++ name ∷ [])
AddsName old new name false = is_among old name ≡ true
