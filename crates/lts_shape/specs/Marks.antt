-- Private: words for marks of states, which private functions speak in.
use Rattle.std.specs.Prelude.{◌≡◌, ℕ, ◌<◌, List, length, Contains, Bool, true, false, slice_index_or as get_or}

-- the states marked are the first n of the list
pub record AreMarks (found : List ℕ) (n states : ℕ) (marks : List Bool) : Type 0 where
  pub long : length marks ≡ states
  pub each : (q : ℕ) → get_or marks q false ≡ true → Contains found q
  pub all : (k : ℕ) → k < n → get_or marks (get_or found k 0) false ≡ true

-- the states marked are those with P
pub record AreMarksOf (P : ℕ → Type 0) (states : ℕ) (marks : List Bool) : Type 0 where
  pub long : length marks ≡ states
  pub each : (q : ℕ) → get_or marks q false ≡ true → P q
  pub all : (q : ℕ) → P q → get_or marks q false ≡ true
