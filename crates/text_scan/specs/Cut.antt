-- Promise: texts that are cut at a byte.
use Rattle.std.specs.Prelude.{◌≡◌, ℕ, List, ◌∷◌, ◌++◌}
use Rattle.std.specs.List.{AllByRecursion}

-- the byte isn't among the bytes
abbrev pub Lacks : ℕ → List ℕ → Type 0
Lacks mark bytes = AllByRecursion (λ b. ¬ (b ≡ mark)) bytes

-- the bytes are the front, the mark and the back, and the mark isn't in the front
pub record IsCut (mark : ℕ) (bytes front back : List ℕ) : Type 0 where
  pub whole : bytes ≡ front ++ mark ∷ back
  pub first : Lacks mark front

-- the bytes are the front, the mark and the back, and the mark isn't in the back
pub record IsLastCut (mark : ℕ) (bytes front back : List ℕ) : Type 0 where
  pub whole : bytes ≡ front ++ mark ∷ back
  pub last : Lacks mark back
