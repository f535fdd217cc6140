-- Promise: the order of items and traces, and the first violation.
use Rattle.std.specs.Prelude.{◌≡◌, ℕ, ◌<◌, ◌≤◌, List, [], ◌∷◌, length, ◌⊎◌}
use Rattle.lts_base.specs.declared.item.Item.{Item}
use Rattle.lts_base.specs.declared.item.Item.TheVariants.{Input, Output, Delta}
use Rattle.lts_base.specs.declared.item.Mode.{Mode}
use Rattle.lts_base.specs.System.{System, label_count}
use Rattle.lts_base.specs.Conformance.{IsViolation}

-- the place of an item among those of an alphabet with n labels: by label number, `delta` last
abbrev pub place : ℕ → Item → ℕ
place n (Input a) = a
place n (Output a) = a
place n Delta = n

-- item by item, the first difference decides
abbrev pub IsLexBelow : ℕ → List Item → List Item → Type 0
IsLexBelow n [] τ = ⊥
IsLexBelow n (x ∷ σ) [] = ⊥
IsLexBelow n (x ∷ σ) (y ∷ τ) = (place n x < place n y) ⊎ ((x ≡ y) × IsLexBelow n σ τ)

-- σ comes before τ: it is shorter, or as long and less item by item
abbrev pub IsBefore : ℕ → List Item → List Item → Type 0
IsBefore n σ τ = (length σ < length τ) ⊎ ((length σ ≡ length τ) × IsLexBelow n σ τ)

-- σ is τ or comes before it
abbrev pub IsAtMost : ℕ → List Item → List Item → Type 0
IsAtMost n σ τ = (σ ≡ τ) ⊎ IsBefore n σ τ

-- σ is the least violating trace, and x the least item that violates after it
pub record IsFirstViolation (mode : Mode) (i s : System) (σ : List Item) (x : Item) : Type 0 where
  pub violation : IsViolation mode i s σ x
  pub trace : (τ : List Item) (y : Item) → IsViolation mode i s τ y → IsAtMost (label_count s) σ τ
  pub item : (y : Item) → IsViolation mode i s σ y → place (label_count s) x ≤ place (label_count s) y
