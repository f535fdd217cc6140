-- Promise: what a session stands for.
use Rattle.std.specs.Prelude.{◌≡◌, ℕ, ◌+◌, ◌≤◌, List, [], ◌∷◌, ◌++◌, ◌⊎◌}
use Rattle.lts_base.specs.declared.item.Item.{Item}
use Rattle.lts_base.specs.declared.item.Item.TheVariants.{Input}
use Rattle.lts_base.specs.Alphabet.{Alphabet}
use Rattle.session_core.specs.declared.setup.Setup.{Setup}
use Rattle.session_core.specs.declared.phase.Phase.{Phase}
use Rattle.session_core.specs.declared.phase.Phase.TheVariants.{Ask, Look, Send, Hear, Done}
use Rattle.session_core.specs.Told.{Told, Chosen, Line, Idle, IdleMid, TooLong, End, Sent}
use Rattle.session_core.specs.Table.{Rules, Sitting, opening, Offered, Given, Heard, Quiet, IsLogged, Turn}
use Rattle.walk_core.specs.declared.choice.Choice.TheVariants.{Input as Ask_input, Observe}
use Rattle.walk_core.specs.declared.walk.WalkError.{WalkError}
use Rattle.walk_core.specs.Walked.{Walked, IsWalk, Grows, IsAccount}
use Rattle.walk_core.specs.Refused.{RefusesAccount}

-- a session: its walk, what it goes by, and where it is
pub record Seat : Type 0 where
  pub walked : Walked
  pub rules : Rules
  pub sitting : Sitting

-- what a session goes by: the walk's system, the labels and the setup
abbrev pub rules_of : Walked → Alphabet → Setup → Rules
rules_of w labels setup = record {
  system = w.system;
  mode = setup.mode;
  texts = labels.texts;
  patience = setup.patience;
  steps = setup.steps;
  goal = setup.goal;
}

-- a session at its opening
abbrev pub opened : Walked → Alphabet → Setup → Seat
opened w labels setup = record { walked = w; rules = rules_of w labels setup; sitting = opening }

-- what is given is logged after these items, and the trace is that of the items with it
abbrev pub IsTraceLogged : Rules → List Item → Given → List Item → Type 0
IsTraceLogged r σ given τ = (x : Item) × IsLogged r σ given x × (τ ≡ σ ++ x ∷ [])

-- in this phase the event asks for the set after this trace: that of a chosen input that is offered, or of what is logged
abbrev pub AsksIn : Phase → Rules → Sitting → Told → List Item → Type 0
AsksIn Ask r s (Chosen (Ask_input a)) τ = Offered r s.items a × (τ ≡ s.items ++ Input a ∷ [])
AsksIn (Look a) r s (Line text) τ = IsTraceLogged r s.items (Heard text) τ
AsksIn Hear r s (Line text) τ = IsTraceLogged r s.items (Heard text) τ
AsksIn Hear r s Idle τ = (r.patience ≤ s.idles + 1) × IsTraceLogged r s.items Quiet τ
AsksIn other r s event τ = ⊥

abbrev pub Asks : Seat → Told → List Item → Type 0
Asks p event τ = AsksIn p.sitting.phase p.rules p.sitting event τ

-- the walk has the set after the trace: at most this set was added, the sizes are within the limit, and where the list was the
-- account of some traces, it is that of these and the trace
pub record Counts (old new : Walked) (τ : List Item) : Type 0 where
  pub grows : Grows old new
  pub walk : IsWalk new
  pub account : (traces : List (List Item)) → IsAccount old traces → IsAccount new (traces ++ τ ∷ [])

-- where the walk's list is the account of some traces, that of these and the trace is above the limit, and has this size; or
-- there is no memory
abbrev pub RefusesTrace : Walked → List Item → WalkError → Type 0
RefusesTrace w τ error = (traces : List (List Item)) → IsAccount w traces → RefusesAccount w (traces ++ τ ∷ []) error

-- the event leads from one seat to the other: it is a turn of the table, and the walk has the set that the event asks for,
-- and no other one more
pub record Takes (p : Seat) (event : Told) (q : Seat) : Type 0 where
  pub turn : Turn p.rules p.sitting event q.sitting
  pub rules : q.rules ≡ p.rules
  pub walk : ((τ : List Item) × Asks p event τ × Counts p.walked q.walked τ) ⊎ (((τ : List Item) → ¬ Asks p event τ) × (q.walked ≡ p.walked))

-- the event is refused: the walk hasn't the set that it asks for
abbrev pub Refuses : Seat → Told → WalkError → Type 0
Refuses p event error = (τ : List Item) × Asks p event τ × RefusesTrace p.walked τ error
