-- Promise: convergent and input-enabled systems.
-- Tretmans (2008), strongly convergent systems and input-output transition systems; input-enabledness in its weak form.
use Rattle.std.specs.Prelude.{◌≡◌, ℕ, ◌<◌, List, [], ◌∷◌, ◌⊎◌}
use Rattle.lts_base.specs.declared.action.Move.{Move}
use Rattle.lts_base.specs.declared.divergence.Divergence.TheVariants.{Quiet}
use Rattle.lts_base.specs.declared.item.Item.{Item}
use Rattle.lts_base.specs.System.{System, Takes}
use Rattle.lts_base.specs.Path.{Step, Along, IsPath, trace_of, Leads, Ends}

-- no non-empty path of moves with Tau leads from a state to itself
abbrev pub IsConvergent : System → Type 0
IsConvergent s = (q : ℕ) (m : Move) (steps : List Step) → IsPath s q (Along m ∷ steps) q → ¬ (trace_of s (Along m ∷ steps) ≡ [])

-- from every state that ends some trace, moves with Tau lead to a state that takes the input, for each input
abbrev pub IsInputEnabled : System → Type 0
IsInputEnabled s = (σ : List Item) (q : ℕ) → Ends s σ q → (a : ℕ) → a < s.inputs → (r : ℕ) × Leads s q [] r × Takes s r a

-- the system is convergent, or states on cycles of moves with Tau are quiet in it; so it shows something after each of its traces
abbrev pub IsConvergentOrQuiet : System → Type 0
IsConvergentOrQuiet s = IsConvergent s ⊎ (s.divergence ≡ Quiet)
