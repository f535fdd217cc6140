-- Promise: one step from a list of states to the next.
-- Tretmans (2008), `after` for one action.
use Rattle.std.specs.Prelude.{ℕ, List, [], All, Contains}
use Rattle.std.specs.List.Sorted.{IsStrictlyIncreasing}
use Rattle.lts_base.specs.declared.item.Item.{Item}
use Rattle.lts_base.specs.System.{System}
use Rattle.lts_base.specs.Path.{Leads, IsSeen}

-- from a member, one step that is seen as x and then moves with Tau lead to q
abbrev pub Reaches : System → List ℕ → Item → ℕ → Type 0
Reaches s ps x q = (p : ℕ) × (r : ℕ) × Contains ps p × IsSeen s p x r × Leads s r [] q

-- qs is the list of the states that the item, and then moves with Tau, can reach from the members of ps
pub record IsNext (s : System) (x : Item) (ps qs : List ℕ) : Type 0 where
  pub rising : IsStrictlyIncreasing qs
  pub each : All (Reaches s ps x) qs
  pub all : (q : ℕ) → Reaches s ps x q → Contains qs q
