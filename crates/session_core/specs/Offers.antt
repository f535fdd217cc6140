-- Promise: the inputs that a session offers.
-- Tretmans, "Model Based Testing with Labelled Transition Systems" (2008): the inputs after which a trace is still one of
-- the suspension traces, or of the Utraces.
use Rattle.std.specs.Prelude.{◌≡◌, ℕ, ◌<◌, ◌≤◌, List, length, Contains}
use Rattle.std.specs.List.Sorted.{IsStrictlyIncreasing}
use Rattle.lts_base.specs.declared.item.Item.{Item}
use Rattle.session_core.specs.Table.{Rules, Offered}

-- these are the numbers below n of which P holds, in order
pub record AreBelow (P : ℕ → Type 0) (n : ℕ) (numbers : List ℕ) : Type 0 where
  pub rising : IsStrictlyIncreasing numbers
  pub each : (a : ℕ) → Contains numbers a → (a < n) × P a
  pub all : (a : ℕ) → a < n → P a → Contains numbers a

-- these are the inputs that are allowed after the items, in order
pub record AreOffers (r : Rules) (σ : List Item) (offers : List ℕ) : Type 0 where
  pub rising : IsStrictlyIncreasing offers
  pub each : (a : ℕ) → Contains offers a → Offered r σ a
  pub all : (a : ℕ) → Offered r σ a → Contains offers a
