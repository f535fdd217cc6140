-- Private: how far a simulation has gone, and what it keeps.
use Rattle.std.specs.Prelude.{◌≡◌, ℕ, ◌<◌, List, [], ◌⊎◌, Option, Some, None}
use Rattle.lts_base.specs.declared.action.Move.{Move}
use Rattle.lts_base.specs.declared.item.Item.{Item}
use Rattle.lts_base.specs.System.{System, IsSystem, IsOnQuietCycle, Takes}
use Rattle.lts_base.specs.Path.{Leads, Ends}
use Rattle.lts_base.specs.Shape.{IsInputEnabled, IsConvergentOrQuiet}
use Rattle.sim_core.specs.declared.among.Among.{Among}
use Rattle.sim_core.specs.Drawn.{open_moves}
use Rattle.sim_core.specs.Simulated.{Place, Goes, Steps}

-- it goes no further from the state: the state is on a quiet cycle, or has no open move
abbrev pub Halts : System → Among → ℕ → Type 0
Halts s among p = IsOnQuietCycle s p ⊎ (open_moves s among p ≡ [])

-- internal moves are drawn until one with the label is, or until it goes no further
abbrev pub IsGone : {R : Type 0} → (R → ℕ × R) → System → Among → Place R → Option ℕ → Place R → Type 0
IsGone step s among p (Some a) q = Steps step s among p a q
IsGone step s among p None q = (ms : List Move) × Goes step s among p ms q × Halts s among q.at

-- internal moves lead from p to a state that takes the input a
abbrev pub CanTake : System → ℕ → ℕ → Type 0
CanTake s a p = (r : ℕ) × Leads s p [] r × Takes s r a

-- the system can be simulated, and the state p, at which some trace ends, is where a simulation may be
pub record IsSimulating (s : System) (p : ℕ) : Type 0 where
  pub system : IsSystem s
  pub below : p < s.states
  pub enabled : IsInputEnabled s
  pub sound : IsConvergentOrQuiet s
  pub reached : (σ : List Item) × Ends s σ p
