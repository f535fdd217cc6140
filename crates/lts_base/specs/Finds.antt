-- Promise: what a search among the states of a system has found, and what its steps add.
use Rattle.std.specs.Prelude.{◌≡◌, ℕ, ◌^◌, ◌<◌, List, [], ◌∷◌, ◌++◌, length, All, Contains, Bool, true, false, ◌⊎◌, ◌≢◌, slice_index_or as get_or}
use Rattle.std.specs.List.{count_by, AllPairs}
use Rattle.std.specs.List.Sorted.{IsStrictlyIncreasing}
use Rattle.lts_base.specs.declared.item.Item.{Item}
use Rattle.lts_base.specs.System.{System}
use Rattle.lts_base.specs.Next.{Reaches}

-- a search: how many states there are, and the states found in the order of their finds
pub record Finds : Type 0 where
  pub states : ℕ
  pub found : List ℕ

-- the marks are those of the states found, each of which was found once
pub record IsMarked (marked : List Bool) (found : List ℕ) : Type 0 where
  pub small : length marked < 2 ^ 32
  pub each : All (λ q. (q < length marked) × (get_or marked q false ≡ true)) found
  pub all : (q : ℕ) → get_or marked q false ≡ true → Contains found q
  pub count : length found ≡ count_by (λ b. b) marked
  pub once : AllPairs (λ x y. x ≢ y) found

-- the state was found before and nothing changed, or it is the last find
abbrev pub IsAdded : List ℕ → ℕ → List ℕ → Type 0
IsAdded old q new = ((new ≡ old) × Contains old q) ⊎ (new ≡ old ++ q ∷ [])

-- all states with P were added to those found before, and no others
pub record Adds (P : ℕ → Type 0) (old new : List ℕ) : Type 0 where
  pub kept : (more : List ℕ) × (new ≡ old ++ more) × All P more
  pub all : (q : ℕ) → P q → Contains new q

-- the relation R leads from some member of ps to r
abbrev pub IsReached : (ℕ → ℕ → Type 0) → List ℕ → ℕ → Type 0
IsReached R ps r = (p : ℕ) × Contains ps p × R p r

-- rs are the states that the relation R leads to from the members of ps
pub record AreReached (R : ℕ → ℕ → Type 0) (ps rs : List ℕ) : Type 0 where
  pub each : All (IsReached R ps) rs
  pub all : (p r : ℕ) → Contains ps p → R p r → Contains rs r

-- the states found are those that the item, and then moves with Tau, reach from the members of ps, in any order
pub record AreNext (s : System) (x : Item) (ps found : List ℕ) : Type 0 where
  pub each : All (Reaches s ps x) found
  pub all : (q : ℕ) → Reaches s ps x q → Contains found q

-- a list with the same members, in ascending order
pub record IsSorted (found sorted : List ℕ) : Type 0 where
  pub rising : IsStrictlyIncreasing sorted
  pub each : All (Contains found) sorted
  pub all : All (Contains sorted) found
