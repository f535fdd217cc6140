-- Private: marks of the quiet states.
use Rattle.std.specs.Prelude.{◌≡◌, ◌↔◌, ℕ, ◌<◌, ◌≤◌, List, length, Bool, true, false, slice_index_or as get_or}
use Rattle.lts_base.specs.System.{System, Takes, IsQuiet}

-- a move with an output leaves p
abbrev pub GivesSome : System → ℕ → Type 0
GivesSome s p = (a : ℕ) × (s.inputs ≤ a) × Takes s p a

-- the first n marks say which of the first n states are quiet
pub record AreQuiet (s : System) (n : ℕ) (marks : List Bool) : Type 0 where
  pub long : length marks ≡ n
  pub each : (q : ℕ) → q < n → (get_or marks q false ≡ true) ↔ IsQuiet s q
