-- Laws on what lists of states show and allow.
use Rattle.std.proofs.Common.{ℕ, ◌<◌, ◌≤◌, List, length, get_or, Contains, Bool, IsTrue, ◌↔◌}
use Rattle.lts_base.specs.declared.item.Item.TheVariants.{Output}
use Rattle.lts_base.specs.System.{System, IsItemOf, Takes}
use Rattle.lts_base.specs.After.{Gives}
use Rattle.lts_base.proofs.ListLaws.{none_contained}

-- P holds at none of the places, so no member has P
pub none_of : (P : ℕ → Type 0) (xs : List ℕ) (n : ℕ) → length xs ≤ n → ((k d : ℕ) → k < n → P (get_or xs k d) → ⊥) → (q : ℕ) × Contains xs q × P q → ⊥
none_of P xs n over none (q, inside, has) = none_contained (λ q. P q → ⊥) xs n over none q inside has

-- an output is given where a move with it leaves the state
pub Gives-from_takes : (s : System) (q a : ℕ) → IsItemOf s (Output a) → Takes s q a → Gives s q (Output a)
Gives-from_takes s q a item takes = assumption (item, takes)

-- a state that gives an output has a move with it
pub Takes-from_gives : (s : System) (q a : ℕ) → Gives s q (Output a) → Takes s q a
Takes-from_gives s q a gives = assumption gives

-- a move with the output leaves the state exactly where the state gives it
pub Gives-output : (s : System) (q a : ℕ) (b : Bool) → IsItemOf s (Output a) → IsTrue b ↔ Takes s q a → IsTrue b ↔ Gives s q (Output a)
Gives-output s q a b item (into, back) = ((λ t. Gives-from_takes s q a item (into t)), (λ gives. back (Takes-from_gives s q a gives)))
