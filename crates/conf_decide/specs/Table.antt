-- Private: the pairs that a search has found, as its table holds them.
use Rattle.std.specs.Prelude.{◌≡◌, ℕ, ◌+◌, ◌*◌, ◌<◌, ◌≤◌, List, [], ◌∷◌, ◌++◌, length, map, Contains, ◌⊎◌, slice_index_or as get_or}
use Rattle.lts_base.specs.declared.item.Item.{Item}
use Rattle.lts_base.specs.declared.item.Item.TheVariants.{Delta}
use Rattle.lts_base.specs.Reached.{Row, trace_at}
use Rattle.lts_base.specs.Related.{row_of}
use Rattle.conf_decide.specs.declared.table.Found.{Found}

-- what a list of pairs is read to have where it has no pair
abbrev pub no_found : Found
no_found = record { left = 0; right = 0; from = 0; item = Delta; depth = 0 }

-- the pair with this number
abbrev pub found_at : List Found → ℕ → Found
found_at found k = get_or found k no_found

-- the two nodes of a pair
abbrev pub nodes_of : Found → ℕ × ℕ
nodes_of f = (f.left, f.right)

-- two nodes as one number; different nodes below 2^32 have different numbers
abbrev pub key_of : ℕ → ℕ → ℕ
key_of left right = left * 4294967296 + right

-- the number of a pair's nodes
abbrev pub found_key : Found → ℕ
found_key f = key_of f.left f.right

-- the keys are the numbers of the pairs' nodes
pub record AreKeys (found : List Found) (ks : List ℕ) : Type 0 where
  pub small : (k : ℕ) → k < length found → (found_at found k).right < 4294967296
  pub each : (key : ℕ) → Contains ks key → Contains (map found_key found) key
  pub all : (key : ℕ) → Contains (map found_key found) key → Contains ks key

-- some pair has these two nodes
abbrev pub HasPair : List Found → ℕ → ℕ → Type 0
HasPair found left right = (k : ℕ) × (k < length found) × (nodes_of (found_at found k) ≡ (left, right))

-- each pair but the first was found from an earlier one
abbrev pub AreEarlier : List Found → Type 0
AreEarlier found = (k : ℕ) → 0 < k → k < length found → (found_at found k).from < k

-- the traces lead to the pairs: each is that of the pair from which it was found and one item more
pub record AreEdges (found : List Found) (traces : List (List Item)) : Type 0 where
  pub long : length traces ≡ length found
  pub opening : trace_at traces 0 ≡ []
  pub earlier : AreEarlier found
  pub each : (k : ℕ) → 0 < k → k < length found → trace_at traces k ≡ trace_at traces (found_at found k).from ++ (found_at found k).item ∷ []
  pub depth : (k : ℕ) → k < length found → (found_at found k).depth ≡ length (trace_at traces k)
  pub short : (k : ℕ) → k < length found → (found_at found k).depth ≤ k

-- the pairs of sets that the nodes name in the two walks' lists of sets
abbrev pub rows_in : List (List ℕ) → List (List ℕ) → List Found → List Row
rows_in left right found = map (λ (f : Found). row_of left right (nodes_of f)) found

-- the number is one above the greatest of the pairs' nodes on one side, or 0 where there is no pair
pub record IsAbove (node : Found → ℕ) (found : List Found) (n : ℕ) : Type 0 where
  pub each : (k : ℕ) → k < length found → node (found_at found k) < n
  pub some : (n ≡ 0) ⊎ ((k : ℕ) × (k < length found) × (node (found_at found k) + 1 ≡ n))
