-- Promise: allowed traces, violations and conformance: ioco and uioco.
-- Tretmans (2008), Straces and ioco; Utraces and uioco.
use Rattle.std.specs.Prelude.{◌≡◌, ℕ, List, ◌∷◌, ◌++◌}
use Rattle.lts_base.specs.declared.item.Item.{Item}
use Rattle.lts_base.specs.declared.item.Item.TheVariants.{Input}
use Rattle.lts_base.specs.declared.item.Mode.{Mode}
use Rattle.lts_base.specs.declared.item.Mode.TheVariants.{Ioco, Uioco}
use Rattle.lts_base.specs.System.{System, IsStable, Takes}
use Rattle.lts_base.specs.Path.{Ends, Has}
use Rattle.lts_base.specs.After.{ShowsAfter}

-- along the trace no input is underspecified: for each prefix τ·a that ends in an input a, every stable state that ends τ
-- takes a
abbrev pub IsUtraceAlong : System → List Item → Type 0
IsUtraceAlong s σ = (τ ρ : List Item) (a : ℕ) → σ ≡ τ ++ Input a ∷ ρ → (q : ℕ) → Ends s τ q → IsStable s q → Takes s q a

-- the specification s allows the trace: under ioco each suspension trace of s, under uioco each Utrace of s
abbrev pub IsAllowed : Mode → System → List Item → Type 0
IsAllowed Ioco s σ = Has s σ
IsAllowed Uioco s σ = Has s σ × IsUtraceAlong s σ

-- after the allowed trace the implementation i shows the item, and the specification s doesn't
pub record IsViolation (mode : Mode) (i s : System) (σ : List Item) (x : Item) : Type 0 where
  pub allowed : IsAllowed mode s σ
  pub shown : ShowsAfter i σ x
  pub unshown : ¬ ShowsAfter s σ x

-- the implementation i conforms to the specification s: there is no violation
abbrev pub IsConforming : Mode → System → System → Type 0
IsConforming mode i s = (σ : List Item) (x : Item) → ¬ IsViolation mode i s σ x
