-- Private: what a session keeps over its walk.
use Rattle.std.specs.Prelude.{◌≡◌, ℕ, ◌+◌, ◌<◌, ◌≤◌, List, [], ◌∷◌, ◌++◌, length, All, None, ◌⊎◌}
use Rattle.lts_base.specs.declared.item.Item.{Item}
use Rattle.lts_base.specs.declared.item.Item.TheVariants.{Input, Output, Delta}
use Rattle.lts_base.specs.declared.item.Mode.{Mode}
use Rattle.lts_base.specs.System.{IsItemOf, label_count}
use Rattle.lts_base.specs.Alphabet.{Alphabet}
use Rattle.log_text.specs.declared.limits.TheConstants.{MOST_STEPS, MOST_PATIENCE}
use Rattle.session_core.specs.declared.verdict.Verdict.TheVariants.{Pass, Fail}
use Rattle.session_core.specs.declared.phase.Phase.{Phase}
use Rattle.session_core.specs.declared.phase.Phase.TheVariants.{Ask, Look, Send, Hear, Done}
use Rattle.session_core.specs.Table.{Rules, Sitting, Shown, IsOver, IsOpen, Settles}
use Rattle.session_core.specs.Fuel.{IsGoingOn}
use Rattle.session_core.specs.Offers.{AreOffers}
use Rattle.session_core.specs.Kept.{Kept}
use Rattle.session_core.specs.Seat.{Counts, RefusesTrace}
use Rattle.session_core.specs.Placed.{IsAt}
use Rattle.walk_core.specs.declared.walk.WalkError.{WalkError}
use Rattle.walk_core.specs.Walked.{Walked, IsWalk}

-- the node of an input that was chosen is that of the items with the input
abbrev pub IsChosen : Walked → Mode → Phase → ℕ → List Item → Type 0
IsChosen w mode Ask k σ = Unit {0}
IsChosen w mode (Look a) k σ = IsAt w mode k (σ ++ Input a ∷ [])
IsChosen w mode (Send a) k σ = IsAt w mode k (σ ++ Input a ∷ [])
IsChosen w mode Hear k σ = Unit {0}
IsChosen w mode (Done v) k σ = Unit {0}

-- the rules are those of a walk over the alphabet, within their limits
pub record AreRules (w : Walked) (a : Alphabet) (r : Rules) : Type 0 where
  pub system : r.system ≡ w.system
  pub inputs : r.system.inputs ≡ a.inputs
  pub texts : r.texts ≡ a.texts
  pub count : label_count r.system ≡ length a.texts
  pub patience : 1 ≤ r.patience
  pub patient : r.patience ≤ MOST_PATIENCE
  pub steps : 1 ≤ r.steps
  pub few : r.steps ≤ MOST_STEPS

-- a session that isn't done is at the node of its items, and has fewer items than steps
pub record IsSound (w : Walked) (a : Alphabet) (r : Rules) (kept : Kept) (here next : ℕ) (offers : List ℕ) : Type 0 where
  pub rules : AreRules w a r
  pub room : kept.room ≡ r.steps
  pub at : IsOpen kept.sitting.phase → IsAt w r.mode here kept.sitting.items
  pub chosen : IsChosen w r.mode kept.sitting.phase next kept.sitting.items
  pub offered : IsOpen kept.sitting.phase → AreOffers r kept.sitting.items offers
  pub going : IsGoingOn r kept.sitting
  pub strange : IsOpen kept.sitting.phase → kept.sitting.strange ≡ None
  pub items : All (IsItemOf r.system) kept.sitting.items

-- what follows the items, which are all that there are to be or not
abbrev pub PhaseAfter : Rules → List Item → Phase → Type 0
PhaseAfter r σ phase = (IsOver r σ × (phase ≡ Done Pass)) ⊎ ((¬ IsOver r σ) × (phase ≡ Ask))

-- the item is an output or `delta`
abbrev pub IsSeen : Item → Type 0
IsSeen (Input a) = ⊥
IsSeen (Output a) = Unit {0}
IsSeen Delta = Unit {0}

-- an item that was observed is logged; where it isn't shown, the session has failed there
abbrev pub Saw : Rules → Sitting → Item → Sitting → Type 0
Saw r s x t = (Shown r s.items x × Settles r s x t) ⊎
    ((¬ Shown r s.items x) × (t ≡ record s { phase = Done (Fail (length s.items + 1)); items = s.items ++ x ∷ [] }))

-- where the item is shown, the walk has the set after the items with it, and else no further one
abbrev pub SawIn : Rules → Walked → Walked → List Item → Item → Type 0
SawIn r old new σ x = (Shown r σ x × Counts old new (σ ++ x ∷ [])) ⊎ ((¬ Shown r σ x) × (new ≡ old))

-- the item is shown, and the walk refuses the set after the items with it
abbrev pub RefusesShown : Rules → Walked → List Item → Item → WalkError → Type 0
RefusesShown r w σ x error = Shown r σ x × RefusesTrace w (σ ++ x ∷ []) error
