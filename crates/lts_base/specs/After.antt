-- Promise: the set of states after a trace, and what states and lists of states show and allow.
-- Tretmans (2008), `after` and `out`.
use Rattle.std.specs.Prelude.{ℕ, ◌≤◌, List, All, Contains}
use Rattle.std.specs.List.Sorted.{IsStrictlyIncreasing}
use Rattle.lts_base.specs.declared.item.Item.{Item}
use Rattle.lts_base.specs.declared.item.Item.TheVariants.{Input, Output, Delta}
use Rattle.lts_base.specs.declared.item.Mode.{Mode}
use Rattle.lts_base.specs.declared.item.Mode.TheVariants.{Ioco, Uioco}
use Rattle.lts_base.specs.System.{System, IsStable, IsQuiet, Takes}
use Rattle.lts_base.specs.Path.{Ends}

-- the list is the set after the trace: strictly ascending, and its members are exactly the states at which a path from
-- the start with this trace ends
pub record IsSetAfter (s : System) (σ : List Item) (ps : List ℕ) : Type 0 where
  pub rising : IsStrictlyIncreasing ps
  pub each : All (Ends s σ) ps
  pub all : (q : ℕ) → Ends s σ q → Contains ps q

-- the state q gives the item: it is an output, and a move with it leaves q; or it is `delta`, and q is quiet
abbrev pub Gives : System → ℕ → Item → Type 0
Gives s q (Input a) = ⊥
Gives s q (Output a) = (s.inputs ≤ a) × Takes s q a
Gives s q Delta = IsQuiet s q

-- after the trace the system shows the item: some state that ends the trace gives it
abbrev pub ShowsAfter : System → List Item → Item → Type 0
ShowsAfter s σ x = (q : ℕ) × Ends s σ q × Gives s q x

-- the list of states shows the item: some member gives it
abbrev pub Shows : System → List ℕ → Item → Type 0
Shows s ps x = (q : ℕ) × Contains ps q × Gives s q x

-- every stable member takes the input; asked for under uioco alone
abbrev pub AllStableTake : Mode → System → List ℕ → ℕ → Type 0
AllStableTake Ioco s ps a = Unit {0}
AllStableTake Uioco s ps a = (q : ℕ) → Contains ps q → IsStable s q → Takes s q a

-- the list of states allows the item: it shows the output or `delta`; of an input, some member takes it, and under uioco
-- every stable member does
abbrev pub Allows : Mode → System → List ℕ → Item → Type 0
Allows mode s ps (Input a) = ((q : ℕ) × Contains ps q × Takes s q a) × AllStableTake mode s ps a
Allows mode s ps (Output a) = Shows s ps (Output a)
Allows mode s ps Delta = Shows s ps Delta
