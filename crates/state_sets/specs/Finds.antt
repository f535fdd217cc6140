-- Promise: the labels that a list of states takes, and the least of numbers.
use Rattle.std.specs.Prelude.{◌≡◌, ℕ, ◌<◌, ◌≤◌, List, Contains, ◌⊎◌}
use Rattle.lts_base.specs.System.{System, Takes}

-- a move with the label leaves some member of the list
abbrev pub IsTakenIn : System → List ℕ → ℕ → Type 0
IsTakenIn s ps a = (q : ℕ) × Contains ps q × Takes s q a

-- n is the least number with P from `from` on and below `most`; where there is none, it is `most`
pub record IsLeastFrom (P : ℕ → Type 0) (from most n : ℕ) : Type 0 where
  pub low : from ≤ n
  pub high : n ≤ most
  pub none : (a : ℕ) → from ≤ a → a < n → ¬ P a
  pub some : (n ≡ most) ⊎ P n
