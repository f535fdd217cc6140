-- Promise: blanks at the ends of a text.
use Rattle.std.specs.Prelude.{ℕ, Bool, ◌==◌, ◌||◌, List, [], ◌∷◌, if◌then◌else◌, reverse}

-- the byte is a blank: a space or a tab
abbrev pub is_blank : ℕ → Bool
is_blank b = b == 32 || b == 9

-- the bytes without the blanks at their front
abbrev pub without_front : List ℕ → List ℕ
without_front [] = []
without_front (b ∷ bytes) = if is_blank b then without_front bytes else b ∷ bytes

-- the bytes without the blanks at their back
abbrev pub without_back : List ℕ → List ℕ
without_back bytes = reverse (without_front (reverse bytes))

-- the bytes without the blanks at both ends
abbrev pub trimmed : List ℕ → List ℕ
trimmed bytes = without_back (without_front bytes)
