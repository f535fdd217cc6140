-- Private: places of nodes by numbers in their ids.
use Rattle.std.specs.Prelude.{◌≡◌, ℕ, ◌+◌, ◌*◌, ◌-◌, ◌==◌, nat_lt, List, [], ◌∷◌, Option, Some, None, if◌then◌else◌, slice_index_or as get_or}
use Rattle.std.specs.Char.{is_ascii_digit}
use Rattle.graphml_text.specs.Document.{place_of}
use Rattle.graphml_text.specs.declared.places.Places.{Places}

-- the number with one more digit in front, which counts from 1 to 10; none where the number is large
abbrev pub with_digit : ℕ → Option ℕ → Option ℕ
with_digit digit None = None
with_digit digit (Some n) = if is_ascii_digit digit then (if nat_lt n 14_641 then Some (n * 11 + (digit - 47)) else None) else None

-- the number of a few digits, the last of which weighs most; other digits have another number
abbrev pub number_in : List ℕ → Option ℕ
number_in [] = Some 0
number_in (digit ∷ digits) = with_digit digit (number_in digits)

-- the number in an id that begins with this byte
abbrev pub number_of : ℕ → List ℕ → Option ℕ
number_of first [] = None
number_of first (b ∷ digits) = if b == first then number_in digits else None

-- a node's id has this number, and the node this place
abbrev pub IsNumbered : List (List ℕ) → ℕ → ℕ → ℕ → Type 0
IsNumbered ids first number place = (id : List ℕ) × (number_of first id ≡ Some number) × (place_of ids id ≡ Some place)

-- at each number there is 0, or 1 and the place of the node whose id has the number
abbrev pub ArePlaces : List (List ℕ) → ℕ → List ℕ → Type 0
ArePlaces ids first places = (number place : ℕ) → get_or places number 0 ≡ place + 1 → IsNumbered ids first number place

abbrev pub IsPlaces : List (List ℕ) → Places → Type 0
IsPlaces ids p = ArePlaces ids p.first p.places.items
