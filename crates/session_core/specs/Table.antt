-- The table of a session: which event leads from which state to which.
use Rattle.std.specs.Prelude.{◌≡◌, ℕ, ◌+◌, ◌<◌, ◌≤◌, List, [], ◌∷◌, ◌++◌, length, Option, None, Some, ◌⊎◌, slice_index_or as get_or}
use Rattle.lts_base.specs.declared.item.Item.{Item}
use Rattle.lts_base.specs.declared.item.Item.TheVariants.{Input, Output, Delta}
use Rattle.lts_base.specs.declared.item.Mode.{Mode}
use Rattle.lts_base.specs.System.{System}
use Rattle.lts_base.specs.After.{ShowsAfter}
use Rattle.lts_base.specs.Conformance.{IsAllowed}
use Rattle.walk_core.specs.declared.choice.Choice.{Choice}
use Rattle.walk_core.specs.declared.choice.Choice.TheVariants.{Input as Ask_input, Observe}
use Rattle.session_core.specs.declared.verdict.Verdict.{Verdict}
use Rattle.session_core.specs.declared.verdict.Verdict.TheVariants.{Pass, Fail, Ended, Stalled, Long}
use Rattle.session_core.specs.declared.phase.Phase.{Phase}
use Rattle.session_core.specs.declared.phase.Phase.TheVariants.{Ask, Look, Send, Hear, Done}
use Rattle.session_core.specs.Told.{Told, Chosen, Line, Idle, IdleMid, TooLong, End, Sent}

-- what a session goes by: the specification, its labels, and the limits
pub record Rules : Type 0 where
  pub system : System
  pub mode : Mode
  pub texts : List (List ℕ)
  pub patience : ℕ
  pub steps : ℕ
  pub goal : Option (List Item)

-- the input a is allowed after the items
unfoldable pub Offered : Rules → List Item → ℕ → Type 0
Offered r σ a = IsAllowed r.mode r.system (σ ++ Input a ∷ [])

-- the specification shows the item after the items
unfoldable pub Shown : Rules → List Item → Item → Type 0
Shown r σ x = ShowsAfter r.system σ x

-- the text is that of the output x
unfoldable pub IsTextOf : Rules → List ℕ → Item → Type 0
IsTextOf r text x = (k : ℕ) × (r.system.inputs ≤ k) × (k < length r.texts) × (get_or r.texts k [] ≡ text) × (x ≡ Output k)

-- the text is that of no output
unfoldable pub IsStrange : Rules → List ℕ → Type 0
IsStrange r text = (k : ℕ) → r.system.inputs ≤ k → k < length r.texts → get_or r.texts k [] ≡ text → ⊥

-- these items are all that a session is to have
abbrev pub IsOver : Rules → List Item → Type 0
IsOver r σ = (length σ ≡ r.steps) ⊎ (r.goal ≡ Some σ)

-- what a part of a session gives: an input that went out, a text that was heard, or quiescence
pub data Given : Type 0 where
  Gave : ℕ → Given
  Heard : List ℕ → Given
  Quiet : Given

-- what is given is logged as this item: an input, or what is shown
abbrev pub IsLogged : Rules → List Item → Given → Item → Type 0
IsLogged r σ (Gave a) x = x ≡ Input a
IsLogged r σ (Heard text) x = IsTextOf r text x × Shown r σ x
IsLogged r σ Quiet x = (x ≡ Delta) × Shown r σ x

-- what is given isn't shown; these are the items then, and the strange text
abbrev pub IsFailed : Rules → List Item → Given → List Item → Option (List ℕ) → Type 0
IsFailed r σ (Gave a) τ strange = ⊥
IsFailed r σ (Heard text) τ strange =
    ((x : Item) × IsTextOf r text x × (¬ Shown r σ x) × (τ ≡ σ ++ x ∷ []) × (strange ≡ None)) ⊎ (IsStrange r text × (τ ≡ σ) × (strange ≡ Some text))
IsFailed r σ Quiet τ strange = (¬ Shown r σ Delta) × (τ ≡ σ ++ Delta ∷ []) × (strange ≡ None)

-- a session: its phase, its items, its two counts, a text that is no output, and unfinished bytes
pub record Sitting : Type 0 where
  pub phase : Phase
  pub items : List Item
  pub idles : ℕ
  pub mid : ℕ
  pub strange : Option (List ℕ)
  pub left : List ℕ

-- the session isn't done
abbrev pub IsOpen : Phase → Type 0
IsOpen Ask = Unit {0}
IsOpen (Look a) = Unit {0}
IsOpen (Send a) = Unit {0}
IsOpen Hear = Unit {0}
IsOpen (Done v) = ⊥

abbrev pub opening : Sitting
opening = record { phase = Ask; items = []; idles = 0; mid = 0; strange = None; left = [] }

-- the item is logged, and the session has passed or asks again
abbrev pub Settles : Rules → Sitting → Item → Sitting → Type 0
Settles r s x t =
    (IsOver r (s.items ++ x ∷ []) × (t ≡ record s { phase = Done Pass; items = s.items ++ x ∷ [] }))
    ⊎ ((¬ IsOver r (s.items ++ x ∷ [])) × (t ≡ record s { phase = Ask; items = s.items ++ x ∷ [] }))

-- what is given isn't shown, and the session has failed at its place
abbrev pub Fails : Rules → Sitting → Given → Sitting → Type 0
Fails r s given t = (τ : List Item) × (strange : Option (List ℕ)) × IsFailed r s.items given τ strange × (t ≡ record s { phase = Done (Fail (length s.items + 1)); items = τ; strange = strange })

-- an observation
abbrev pub Observed : Rules → Sitting → Given → Sitting → Type 0
Observed r s given t = ((x : Item) × IsLogged r s.items given x × Settles r s x t) ⊎ Fails r s given t

-- an idle read that met an unfinished line, of which there may be fewer than patience
abbrev pub Waits : Rules → Sitting → List ℕ → Sitting → Type 0
Waits r s text t =
    ((s.mid + 1 < r.patience) × (t ≡ record s { mid = s.mid + 1 }))
    ⊎ ((r.patience ≤ s.mid + 1) × (t ≡ record s { phase = Done Stalled; mid = s.mid + 1; left = text }))

abbrev pub TurnAsk : Rules → Sitting → Told → Sitting → Type 0
TurnAsk r s (Chosen (Ask_input a)) t = (Offered r s.items a × (t ≡ record s { phase = Look a })) ⊎ ((¬ Offered r s.items a) × (t ≡ record s { phase = Hear; idles = 0 }))
TurnAsk r s (Chosen Observe) t = t ≡ record s { phase = Hear; idles = 0 }
TurnAsk r s (Line text) t = ⊥
TurnAsk r s Idle t = ⊥
TurnAsk r s (IdleMid text) t = ⊥
TurnAsk r s (TooLong text) t = ⊥
TurnAsk r s (End text) t = ⊥
TurnAsk r s Sent t = ⊥

abbrev pub TurnLook : Rules → ℕ → Sitting → Told → Sitting → Type 0
TurnLook r a s (Chosen c) t = ⊥
TurnLook r a s (Line text) t = Observed r (record s { mid = 0 }) (Heard text) t
TurnLook r a s Idle t = t ≡ record s { phase = Send a }
TurnLook r a s (IdleMid text) t = Waits r s text t
TurnLook r a s (TooLong text) t = t ≡ record s { phase = Done Long; left = text }
TurnLook r a s (End text) t = t ≡ record s { phase = Done Ended; left = text }
TurnLook r a s Sent t = ⊥

abbrev pub TurnSend : Rules → ℕ → Sitting → Told → Sitting → Type 0
TurnSend r a s (Chosen c) t = ⊥
TurnSend r a s (Line text) t = ⊥
TurnSend r a s Idle t = ⊥
TurnSend r a s (IdleMid text) t = ⊥
TurnSend r a s (TooLong text) t = ⊥
TurnSend r a s (End text) t = ⊥
TurnSend r a s Sent t = Settles r s (Input a) t

abbrev pub TurnHear : Rules → Sitting → Told → Sitting → Type 0
TurnHear r s (Chosen c) t = ⊥
TurnHear r s (Line text) t = Observed r (record s { mid = 0 }) (Heard text) t
TurnHear r s Idle t =
    ((s.idles + 1 < r.patience) × (t ≡ record s { idles = s.idles + 1 })) ⊎ ((r.patience ≤ s.idles + 1) × Observed r s Quiet t)
TurnHear r s (IdleMid text) t = Waits r (record s { idles = 0 }) text t
TurnHear r s (TooLong text) t = t ≡ record s { phase = Done Long; left = text }
TurnHear r s (End text) t = t ≡ record s { phase = Done Ended; left = text }
TurnHear r s Sent t = ⊥

-- in this phase the event leads from s to t
abbrev pub TurnIn : Phase → Rules → Sitting → Told → Sitting → Type 0
TurnIn Ask r s e t = TurnAsk r s e t
TurnIn (Look a) r s e t = TurnLook r a s e t
TurnIn (Send a) r s e t = TurnSend r a s e t
TurnIn Hear r s e t = TurnHear r s e t
TurnIn (Done v) r s e t = ⊥

-- the table
abbrev pub Turn : Rules → Sitting → Told → Sitting → Type 0
Turn r s e t = TurnIn s.phase r s e t

-- the events lead from s to t
abbrev pub Run : Rules → Sitting → List Told → Sitting → Type 0
Run r s [] t = t ≡ s
Run r s (e ∷ es) t = (m : Sitting) × Turn r s e m × Run r m es t
