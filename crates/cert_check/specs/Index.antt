-- Private: how the pairs of a relation are found by their lists.
use Rattle.std.specs.Prelude.{◌≡◌, ℕ, ◌+◌, ◌*◌, ◌<◌, List, [], length, map, All, Contains, Bool, true, false, slice_index_or as get_or}
use Rattle.lts_base.specs.declared.relation.Relation.{Relation}
use Rattle.lts_base.specs.Alphabet.{AreRising, text_at}

-- the pair of numbers names these two lists
pub record Names (relation : Relation) (pair : ℕ × ℕ) (left right : List ℕ) : Type 0 where
  pub first : get_or relation.left pair.0 [] ≡ left
  pub second : get_or relation.right pair.1 [] ≡ right

-- the pair of numbers at this place
abbrev pub pair_at : Relation → ℕ → ℕ × ℕ
pair_at relation k = get_or relation.pairs k (0, 0)

-- the list has this place among the lists
abbrev pub IsPlace : List (List ℕ) → List ℕ → ℕ → Type 0
IsPlace lists list place = (place < length lists) × (text_at lists place ≡ list)

-- the places of two lists as one number
abbrev pub key_of : ℕ → ℕ → ℕ
key_of left right = left * 4294967296 + right

-- the number is that of the places of these two lists
pub record IsKey (lefts rights : List (List ℕ)) (left right : List ℕ) (key : ℕ) : Type 0 where
  pub first : ℕ
  pub second : ℕ
  pub left_is : IsPlace lefts left first
  pub right_is : IsPlace rights right second
  pub small : second < 4294967296
  pub key_is : key ≡ key_of first second

-- the key is that of one of the first n pairs
abbrev pub IsKeyBelow : Relation → List (List ℕ) → List (List ℕ) → ℕ → ℕ → Type 0
IsKeyBelow relation lefts rights n key =
    (k : ℕ) × (k < n) × ((left right : List ℕ) → Names relation (pair_at relation k) left right → IsKey lefts rights left right key)

-- these are the keys of the first n pairs
pub record AreKeys (relation : Relation) (lefts rights : List (List ℕ)) (n : ℕ) (keys : List ℕ) : Type 0 where
  pub each : (key : ℕ) → Contains keys key → IsKeyBelow relation lefts rights n key
  pub all : (k : ℕ) (left right : List ℕ) → k < n → Names relation (pair_at relation k) left right →
      (key : ℕ) × IsKey lefts rights left right key × Contains keys key

-- the numbers that a pair has
abbrev pub left_of : ℕ × ℕ → ℕ
left_of pair = pair.0

abbrev pub right_of : ℕ × ℕ → ℕ
right_of pair = pair.1

-- the lists at these places
abbrev pub listed : List (List ℕ) → List ℕ → List (List ℕ)
listed lists places = map (text_at lists) places

-- the lists aren't both in the index
abbrev pub LacksKey : List (List ℕ) → List (List ℕ) → List ℕ → List ℕ → Type 0
LacksKey lefts rights left right = ¬ (Contains lefts left × Contains rights right)

-- distinct lists in order, fewer than 2^32
pub record AreSorted (lists : List (List ℕ)) : Type 0 where
  pub rising : AreRising lists
  pub few : length lists < 4294967296

-- on each side distinct lists in order, those of all pairs among them, and the keys of all pairs
pub record IsIndex (relation : Relation) (lefts rights : List (List ℕ)) (keys : List ℕ) : Type 0 where
  pub left : AreSorted lefts
  pub right : AreSorted rights
  pub all_left : All (Contains lefts) (listed relation.left (map left_of relation.pairs))
  pub all_right : All (Contains rights) (listed relation.right (map right_of relation.pairs))
  pub pairs : AreKeys relation lefts rights (length relation.pairs) keys

-- an earlier pair names the lists that this one names
abbrev pub IsRepeat : Relation → ℕ → Type 0
IsRepeat relation k =
    (j : ℕ) × (j < k) × ((left right : List ℕ) → Names relation (pair_at relation k) left right → Names relation (pair_at relation j) left right)

-- each of the first n pairs that is told to be a repeat is one
pub record AreRepeats (relation : Relation) (n : ℕ) (repeated : List Bool) : Type 0 where
  pub long : length repeated ≡ n
  pub each : (k : ℕ) → k < n → get_or repeated k false ≡ true → IsRepeat relation k
