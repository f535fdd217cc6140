-- Promise: rows of bits, and what the bits of a row say of a list of states.
use Rattle.std.specs.Prelude.{◌≡◌, ℕ, ◌+◌, ◌*◌, ◌/◌, ◌%◌, ◌<◌, ◌≤◌, ◌↔◌, List, [], ◌∷◌, length, take, drop, zero, suc, Contains, ◌⊎◌, slice_index_or as get_or}
use Rattle.std.specs.Int.{bit_at}
use Rattle.lts_base.specs.System.{System, label_count, Takes, IsQuiet}

-- rows of words, and how many words each has
pub record Table : Type 0 where
  pub width : ℕ
  pub rows : List (List ℕ)

-- so many rows of this width, which stand in one list
abbrev pub rows_of : ℕ → ℕ → List ℕ → List (List ℕ)
rows_of width zero words = []
rows_of width (suc n) words = take width words ∷ rows_of width n (drop width words)

-- the list has the words of so many rows of this width, which is some
pub record IsLaidOut (width count : ℕ) (words : List ℕ) : Type 0 where
  pub some : 0 < width
  pub long : length words ≡ count * width

-- the bit with this number is set
abbrev pub HasBit : List ℕ → ℕ → Type 0
HasBit row i = bit_at (get_or row (i / 64) 0) (i % 64) ≡ 1

-- the words of a row that has a bit for each label and one more
abbrev pub width_of : System → ℕ
width_of s = label_count s / 64 + 1

-- what the state has with this number: a move with the label, or after the labels, that it is quiet
abbrev pub HasPlace : System → ℕ → ℕ → Type 0
HasPlace s a q = ((a < label_count s) × Takes s q a) ⊎ ((a ≡ label_count s) × IsQuiet s q)

-- a bit of the row is set exactly where some member of ps has what its number stands for
pub record IsRowOf (s : System) (ps row : List ℕ) : Type 0 where
  pub long : length row ≡ width_of s
  pub bits : (a : ℕ) → a ≤ label_count s → (HasBit row a ↔ ((q : ℕ) × Contains ps q × HasPlace s a q))

-- there is a row for each state, which says what it has
pub record AreMasks (s : System) (masks : Table) : Type 0 where
  pub width : masks.width ≡ width_of s
  pub long : length masks.rows ≡ s.states
  pub each : (q : ℕ) → q < s.states → IsRowOf s (q ∷ []) (get_or masks.rows q [])
