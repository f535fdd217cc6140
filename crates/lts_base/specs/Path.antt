-- Promise: paths of a system, and what is seen along them.
-- Tretmans (2008), suspension traces.
use Rattle.std.specs.Prelude.{◌≡◌, ℕ, List, [], ◌∷◌, Contains, if◌then◌else◌, nat_lt}
use Rattle.std.specs.List.{flat_map}
use Rattle.lts_base.specs.declared.action.Act.{Act}
use Rattle.lts_base.specs.declared.action.Act.TheVariants.{Tau, Label}
use Rattle.lts_base.specs.declared.action.Move.{Move}
use Rattle.lts_base.specs.declared.item.Item.{Item}
use Rattle.lts_base.specs.declared.item.Item.TheVariants.{Input, Output, Delta}
use Rattle.lts_base.specs.System.{System, IsQuiet}

-- a step of a path: along a move of the system, or a rest
pub data Step : Type 0 where
  Along : Move → Step
  Rest : Step

-- the steps lead from p to q: each begins where the one before it ended, and a rest is taken in a quiet state
abbrev pub IsPath : System → ℕ → List Step → ℕ → Type 0
IsPath s p [] q = p ≡ q
IsPath s p (Along m ∷ steps) q = (m.from ≡ p) × Contains s.moves m × IsPath s m.to steps q
IsPath s p (Rest ∷ steps) q = IsQuiet s p × IsPath s p steps q

-- the label a as an item: the first labels are the inputs
abbrev pub item_of : System → ℕ → Item
item_of s a = if nat_lt a s.inputs then Input a else Output a

-- what is seen of a move
abbrev pub seen_of_act : System → Act → List Item
seen_of_act s Tau = []
seen_of_act s (Label a) = item_of s a ∷ []

-- what is seen of a step: a label, `delta` for a rest, nothing for Tau
abbrev pub seen_of : System → Step → List Item
seen_of s (Along m) = seen_of_act s m.act
seen_of s Rest = Delta ∷ []

-- the trace of a path: what is seen of its steps
abbrev pub trace_of : System → List Step → List Item
trace_of s steps = flat_map (seen_of s) steps

-- some path with this trace leads from p to q
abbrev pub Leads : System → ℕ → List Item → ℕ → Type 0
Leads s p σ q = (steps : List Step) × IsPath s p steps q × (trace_of s steps ≡ σ)

-- some path from the start with this trace ends at q
abbrev pub Ends : System → List Item → ℕ → Type 0
Ends s σ q = Leads s s.start σ q

-- the system has the trace: some path from the start has it
abbrev pub Has : System → List Item → Type 0
Has s σ = (q : ℕ) × Ends s σ q

-- one step from p to q is seen as x
abbrev pub IsSeen : System → ℕ → Item → ℕ → Type 0
IsSeen s p x q = (step : Step) × IsPath s p (step ∷ []) q × (seen_of s step ≡ x ∷ [])
