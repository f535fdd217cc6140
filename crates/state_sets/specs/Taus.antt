-- Promise: flags that say which states a move with Tau leaves.
use Rattle.std.specs.Prelude.{◌≡◌, ℕ, ◌<◌, ◌↔◌, List, length, Bool, false, IsTrue, slice_index_or as get_or}
use Rattle.lts_base.specs.declared.action.Act.TheVariants.{Tau}
use Rattle.lts_base.specs.System.{System, HasMove}

-- one flag for each state, which says whether a move with Tau leaves it
pub record AreTauFlags (s : System) (flags : List Bool) : Type 0 where
  pub long : length flags ≡ s.states
  pub each : (q : ℕ) → q < s.states → (IsTrue (get_or flags q false) ↔ ((r : ℕ) × HasMove s q Tau r))

-- of the states below n the flags are right
pub record AreTauFlagsTo (s : System) (n : ℕ) (flags : List Bool) : Type 0 where
  pub long : length flags ≡ n
  pub each : (q : ℕ) → q < n → (IsTrue (get_or flags q false) ↔ ((r : ℕ) × HasMove s q Tau r))
