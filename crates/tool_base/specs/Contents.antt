-- Promise: what is said of the contents of files, whether they are told or not.
use Rattle.std.specs.Prelude.{◌≡◌, ℕ, List, [], ◌∷◌, Option, Some, IfSome}

-- what the files tell of their contents, by name
abbrev pub Contents : Type 0
Contents = List ℕ → Option (List ℕ)

-- as far as the files tell, this is the content of the file of this name
abbrev pub HasContent : Contents → List ℕ → List ℕ → Type 0
HasContent contents name content = IfSome (contents name) (λ told. content ≡ told)

-- the contents of these files are told
abbrev pub AreTold : Contents → List (List ℕ) → Type 0
AreTold contents [] = Unit {0}
AreTold contents (name ∷ names) = ((told : List ℕ) × (contents name ≡ Some told)) × AreTold contents names
