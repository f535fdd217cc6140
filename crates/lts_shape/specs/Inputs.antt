-- Promise: inputs that a state can't take.
-- Tretmans (2008), input-enabled systems, in the weak form.
use Rattle.std.specs.Prelude.{ℕ, ◌<◌, ◌≤◌, List, [], All, Contains}
use Rattle.lts_base.specs.declared.item.Item.{Item}
use Rattle.lts_base.specs.System.{System, Takes}
use Rattle.lts_base.specs.Path.{Leads, Ends}

-- some trace ends at the state
abbrev pub EndsSome : System → ℕ → Type 0
EndsSome s q = (σ : List Item) × Ends s σ q

-- the state can take the input: moves with Tau lead from it to a state that takes it
abbrev pub CanTake : System → ℕ → ℕ → Type 0
CanTake s a q = (r : ℕ) × Leads s q [] r × Takes s r a

-- the state lacks the input: it can't take it
abbrev pub Lacks : System → ℕ → ℕ → Type 0
Lacks s a q = ¬ CanTake s a q

-- every state that ends some trace can take the input
abbrev pub AllCanTake : System → ℕ → Type 0
AllCanTake s a = (q : ℕ) → EndsSome s q → CanTake s a q

-- of the states that end some trace, q is the least one that lacks the input
pub record IsLeastLacking (s : System) (a q : ℕ) : Type 0 where
  pub ends : EndsSome s q
  pub lacks : Lacks s a q
  pub least : (p : ℕ) → EndsSome s p → Lacks s a p → q ≤ p

-- of the states that end some trace, q is the least one that lacks one of the first n inputs, and a is the least such input
pub record IsFirstMissing (s : System) (n q a : ℕ) : Type 0 where
  pub ends : EndsSome s q
  pub input : a < n
  pub lacks : Lacks s a q
  pub state : (p b : ℕ) → EndsSome s p → b < n → Lacks s b p → q ≤ p
  pub least : (b : ℕ) → b < n → Lacks s b q → a ≤ b

-- the states found are those that can take the input
pub record AreTakers (s : System) (a : ℕ) (found : List ℕ) : Type 0 where
  pub each : All (CanTake s a) found
  pub all : (q : ℕ) → CanTake s a q → Contains found q
