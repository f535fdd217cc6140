-- Private: how the fields of `PackedTexts` hold a list of texts.
use Rattle.std.specs.Prelude.{◌≡◌, ℕ, ◌-◌, ◌≤◌, List, [], ◌∷◌, take, drop}

-- the pieces of the bytes that end at the ends: the first from the start, and each other one from the end before it
abbrev pub pieces : List ℕ → ℕ → List ℕ → List (List ℕ)
pieces bytes start [] = []
pieces bytes start (end ∷ ends) = take (end - start) (drop start bytes) ∷ pieces bytes end ends

-- the ends rise from the start, and the last one is the size
abbrev pub AreEnds : ℕ → ℕ → List ℕ → Type 0
AreEnds start size [] = start ≡ size
AreEnds start size (end ∷ ends) = (start ≤ end) × AreEnds end size ends
