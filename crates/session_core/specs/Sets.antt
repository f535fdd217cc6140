-- Promise: the sets of a session: those that its events ask for, one after the other.
use Rattle.std.specs.Prelude.{◌≡◌, ℕ, ◌<◌, ◌≤◌, List, [], ◌∷◌, ◌++◌, ◌⊎◌}
use Rattle.lts_base.specs.declared.item.Item.{Item}
use Rattle.session_core.specs.Told.{Told}
use Rattle.session_core.specs.Seat.{Seat, Asks, Takes, Refuses}
use Rattle.walk_core.specs.declared.walk.WalkError.TheVariants.{Full}
use Rattle.walk_core.specs.Walked.{IsAccount, HasAccountOf}

-- the events lead from one seat to the other
abbrev pub TakesAll : Seat → List Told → Seat → Type 0
TakesAll p [] q = q ≡ p
TakesAll p (event ∷ events) q = (m : Seat) × Takes p event m × TakesAll m events q

-- the event asks for the set after the first of these traces, or for none
abbrev pub IsFirstAsked : Seat → Told → List (List Item) → List (List Item) → Type 0
IsFirstAsked p event asked rest = ((τ : List Item) × Asks p event τ × (asked ≡ τ ∷ rest)) ⊎ (((τ : List Item) → ¬ Asks p event τ) × (asked ≡ rest))

-- the events lead from one seat to the other, and ask for the sets after these traces
abbrev pub AsksAll : Seat → List Told → List (List Item) → Seat → Type 0
AsksAll p [] asked q = (q ≡ p) × (asked ≡ [])
AsksAll p (event ∷ events) asked q = (m : Seat) × (rest : List (List Item)) × Takes p event m × AsksAll m events rest q × IsFirstAsked p event asked rest

-- the walk's list, which was the account of some traces, is that of these and of the sets that the events asked for
pub record HasSets (p : Seat) (events : List Told) (q : Seat) : Type 0 where
  pub asked : List (List Item)
  pub asks : AsksAll p events asked q
  pub account : (traces : List (List Item)) → IsAccount p.walked traces → IsAccount q.walked (traces ++ asked)

-- with the set that the event asks for, the sizes of the session's sets add up to `reached`, above the walk's limit
abbrev pub PassesLimit : Seat → List (List Item) → Seat → Told → ℕ → Type 0
PassesLimit p asked q event reached = (τ : List Item) × Asks q event τ × HasAccountOf p.walked.system ([] ∷ (asked ++ τ ∷ [])) reached × (p.walked.limit < reached)

-- the session's sets after events from its opening: the set after no item and those that the events asked for, each once; their
-- sizes add up to `members`, within the walk's limit; and an event is refused as full only where with its set they pass it
pub record HasMembers (p : Seat) (events : List Told) (q : Seat) : Type 0 where
  pub asked : List (List Item)
  pub asks : AsksAll p events asked q
  pub members : ℕ
  pub sum : HasAccountOf p.walked.system ([] ∷ asked) members
  pub within : members ≤ p.walked.limit
  pub full : (event : Told) (reached : ℕ) → Refuses q event (Full reached) → PassesLimit p asked q event reached
