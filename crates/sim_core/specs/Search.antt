-- Private: how far a search by breadth along internal moves is.
use Rattle.std.specs.Prelude.{◌≡◌, ℕ, ◌<◌, ◌≤◌, List, [], ◌∷◌, ◌++◌, length, Contains, ◌⊎◌, slice_index_or as get_or}
use Rattle.lts_base.specs.declared.action.Act.TheVariants.{Tau}
use Rattle.lts_base.specs.declared.action.Move.{Move}
use Rattle.lts_base.specs.System.{System, HasMove, IsTauPath}
use Rattle.sim_core.specs.Simulated.{IsLessOrSame}

-- the state was found before and nothing changed, or it is a new one and the last find
abbrev pub IsFound : List ℕ → ℕ → List ℕ → Type 0
IsFound old q new = ((new ≡ old) × Contains old q) ⊎ ((new ≡ old ++ q ∷ []) × (¬ Contains old q))

abbrev pub find_at : List ℕ → ℕ → ℕ
find_at found k = get_or found k 0

-- the way on which find number k was found
abbrev pub way_at : List (List ℕ) → ℕ → List ℕ
way_at ways k = get_or ways k []

-- the first list comes strictly before the other, item by item
abbrev pub IsLexLess : List ℕ → List ℕ → Type 0
IsLexLess [] ys = ⊥
IsLexLess (x ∷ xs) [] = ⊥
IsLexLess (x ∷ xs) (y ∷ ys) = (x < y) ⊎ ((x ≡ y) × IsLexLess xs ys)

-- the first list is shorter, or they are as long as each other and it comes first
abbrev pub IsLess : List ℕ → List ℕ → Type 0
IsLess xs ys = (length xs < length ys) ⊎ ((length xs ≡ length ys) × IsLexLess xs ys)

-- one of the moves is an internal one to q
abbrev pub IsTarget : List Move → ℕ → Type 0
IsTarget moves q = (m : Move) × Contains moves m × (m.act ≡ Tau) × (m.to ≡ q)

-- find number k was found by an internal move from one of the first finds, or by one of the moves looked at from the next of them
abbrev pub IsMade : List ℕ → List (List ℕ) → ℕ → List Move → ℕ → Type 0
IsMade found ways at looked k = (m : ℕ) × (way_at ways k ≡ way_at ways m ++ find_at found k ∷ []) × ((m < at) ⊎ ((m ≡ at) × IsTarget looked (find_at found k)))

-- q is found, and no way by the way to it is less
abbrev pub IsClosed : List ℕ → List (List ℕ) → List ℕ → ℕ → Type 0
IsClosed found ways way q = (j : ℕ) × (j < length found) × (find_at found j ≡ q) × IsLessOrSame (way_at ways j) (way ++ q ∷ [])

-- a search from p: the finds with the ways to them, which rise; from the first of them, and by the moves looked at from the next
-- one, all internal moves have been followed
pub record IsSearch (s : System) (p : ℕ) (found : List ℕ) (ways : List (List ℕ)) (at : ℕ) (looked : List Move) : Type 0 where
  pub long : length ways ≡ length found
  pub some : 0 < length found
  pub within : at ≤ length found
  pub first : find_at found 0 ≡ p
  pub first_way : way_at ways 0 ≡ []
  pub paths : (k : ℕ) → k < length found → IsTauPath s p (way_at ways k) (find_at found k)
  pub rising : (j k : ℕ) → j < k → k < length found → IsLess (way_at ways j) (way_at ways k)
  pub made : (k : ℕ) → 0 < k → k < length found → IsMade found ways at looked k
  pub closed : (m : ℕ) (q : ℕ) → m < at → HasMove s (find_at found m) Tau q → IsClosed found ways (way_at ways m) q
  pub next : (q : ℕ) → IsTarget looked q → IsClosed found ways (way_at ways at) q

-- a search from p whose first finds have been followed
abbrev pub HasSearched : System → ℕ → List ℕ → ℕ → Type 0
HasSearched s p found at = (ways : List (List ℕ)) × IsSearch s p found ways at []
