-- What a list of events is read as: rounds from its beginning, and what is left.
use Rattle.std.specs.Prelude.{◌≡◌, ℕ, ◌+◌, ◌<◌, ◌≤◌, List, [], ◌∷◌, ◌++◌, length, map, replicate, Option, None, ◌⊎◌}
use Rattle.std.specs.List.{flat_map}
use Rattle.lts_base.specs.declared.item.Item.{Item}
use Rattle.walk_core.specs.declared.choice.Choice.{Choice}
use Rattle.walk_core.specs.declared.choice.Choice.TheVariants.{Input as Ask_input, Observe}
use Rattle.session_core.specs.declared.verdict.Verdict.{Verdict}
use Rattle.session_core.specs.declared.verdict.Verdict.TheVariants.{Pass, Fail, Ended, Stalled, Long}
use Rattle.session_core.specs.declared.phase.Phase.{Phase}
use Rattle.session_core.specs.declared.phase.Phase.TheVariants.{Ask, Look, Send, Hear, Done}
use Rattle.session_core.specs.Told.{Told, Chosen, Line, Idle, IdleMid, TooLong, End, Sent}
use Rattle.session_core.specs.Table.{Rules, Sitting, opening, Run, Offered, IsOver, Given, Gave, Heard, Quiet, IsLogged, IsFailed}

-- a read that met no line: an idle one, or one that met an unfinished line
pub data Wait : Type 0 where
  Still : Wait
  Partly : List ℕ → Wait

abbrev pub told_of : Wait → Told
told_of Still = Idle
told_of (Partly text) = IdleMid text

-- a round: an input that went out, an input that a line crossed, a line that was heard, and quiescence
pub data Round : Type 0 where
  Went : ℕ → List (List ℕ) → Round
  Crossed : ℕ → List (List ℕ) → List ℕ → Round
  Came : Choice → List Wait → List ℕ → Round
  Rested : Choice → List Wait → Round

abbrev pub events_of : Round → List Told
events_of (Went a mids) = Chosen (Ask_input a) ∷ (map IdleMid mids ++ Idle ∷ Sent ∷ [])
events_of (Crossed a mids text) = Chosen (Ask_input a) ∷ (map IdleMid mids ++ Line text ∷ [])
events_of (Came c waits text) = Chosen c ∷ (map told_of waits ++ Line text ∷ [])
events_of (Rested c waits) = Chosen c ∷ map told_of waits

abbrev pub given_by : Round → Given
given_by (Went a mids) = Gave a
given_by (Crossed a mids text) = Heard text
given_by (Came c waits text) = Heard text
given_by (Rested c waits) = Quiet

-- no n idle reads stand in a row
abbrev pub HasNoRow : ℕ → List Wait → Type 0
HasNoRow n waits = (before after : List Wait) → waits ≡ before ++ replicate n Still ++ after → ⊥

-- the last n are idle reads in a row, and no earlier row is so long
abbrev pub EndsInRow : ℕ → List Wait → Type 0
EndsInRow n waits = ((before : List Wait) × (waits ≡ before ++ replicate n Still)) × ((before after : List Wait) → waits ≡ before ++ replicate n Still ++ after → after ≡ [])

-- the choice is no input that is offered
abbrev pub IsOther : Rules → List Item → Choice → Type 0
IsOther r σ (Ask_input a) = ¬ Offered r σ a
IsOther r σ Observe = Unit {0}

-- the round may stand after the items
abbrev pub FitsAt : Rules → List Item → Round → Type 0
FitsAt r σ (Went a mids) = Offered r σ a
FitsAt r σ (Crossed a mids text) = Offered r σ a
FitsAt r σ (Came c waits text) = IsOther r σ c × HasNoRow r.patience waits
FitsAt r σ (Rested c waits) = IsOther r σ c × EndsInRow r.patience waits

-- the rounds go on from the items σ to the items τ: each gives an item that is logged, after which the session isn't over
abbrev pub GoOn : Rules → List Item → List Round → List Item → Type 0
GoOn r σ [] τ = τ ≡ σ
GoOn r σ (round ∷ rounds) τ = (x : Item) × FitsAt r σ round × IsLogged r σ (given_by round) x × (¬ IsOver r (σ ++ x ∷ [])) × GoOn r (σ ++ x ∷ []) rounds τ

-- the events are those of rounds that go on to the items σ, and then these
pub record IsCut (r : Rules) (es : List Told) (σ : List Item) (tail : List Told) : Type 0 where
  pub rounds : List Round
  pub go : GoOn r [] rounds σ
  pub cut : es ≡ flat_map events_of rounds ++ tail

-- how many reads met an unfinished line since the last line
abbrev pub mid_after : ℕ → Told → ℕ
mid_after n (Chosen c) = n
mid_after n (Line text) = 0
mid_after n Idle = n
mid_after n (IdleMid text) = n + 1
mid_after n (TooLong text) = n
mid_after n (End text) = n
mid_after n Sent = n

abbrev pub mids_from : ℕ → List Told → ℕ
mids_from n [] = n
mids_from n (e ∷ es) = mids_from (mid_after n e) es

abbrev pub mids_since : List Told → ℕ
mids_since es = mids_from 0 es

-- nowhere within the events have there been as many such reads as patience
abbrev pub HasFew : Rules → List Told → Type 0
HasFew r es = (before after : List Told) → es ≡ before ++ after → mids_since before < r.patience

-- the events of a round that isn't finished, by what the session waits for
abbrev pub IsPart : Rules → List Item → Phase → List Told → Type 0
IsPart r σ Ask part = part ≡ []
IsPart r σ (Look a) part = Offered r σ a × (mids : List (List ℕ)) × (part ≡ Chosen (Ask_input a) ∷ map IdleMid mids)
IsPart r σ (Send a) part = Offered r σ a × (mids : List (List ℕ)) × (part ≡ Chosen (Ask_input a) ∷ (map IdleMid mids ++ Idle ∷ []))
IsPart r σ Hear part = (c : Choice) × (waits : List Wait) × IsOther r σ c × HasNoRow r.patience waits × (part ≡ Chosen c ∷ map told_of waits)
IsPart r σ (Done v) part = ⊥

-- a round in which a line may come
abbrev pub IsHearing : Rules → List Item → List Told → Type 0
IsHearing r σ part = ((a : ℕ) × IsPart r σ (Look a) part) ⊎ IsPart r σ Hear part

-- the events end with the one that gives this verdict
abbrev pub EndsWith : Rules → List Told → List Item → List Told → Sitting → Verdict → Type 0
EndsWith r es σ tail s Pass = (round : Round) × (x : Item) × FitsAt r σ round × IsLogged r σ (given_by round) x × IsOver r (σ ++ x ∷ []) × (tail ≡ events_of round) × HasFew r es × (s.items ≡ σ ++ x ∷ []) × (s.strange ≡ None) × (s.left ≡ [])
EndsWith r es σ tail s (Fail k) = (round : Round) × FitsAt r σ round × IsFailed r σ (given_by round) s.items s.strange × (tail ≡ events_of round) × HasFew r es × (k ≡ length σ + 1) × (s.left ≡ [])
EndsWith r es σ tail s Stalled = (front : List Told) × (part : List Told) × (es ≡ front ++ IdleMid s.left ∷ []) × (tail ≡ part ++ IdleMid s.left ∷ []) × IsHearing r σ part × HasFew r front × (mids_since es ≡ r.patience) × (s.items ≡ σ) × (s.strange ≡ None)
EndsWith r es σ tail s Long = (part : List Told) × (tail ≡ part ++ TooLong s.left ∷ []) × IsHearing r σ part × HasFew r es × (s.items ≡ σ) × (s.strange ≡ None)
EndsWith r es σ tail s Ended = (part : List Told) × (tail ≡ part ++ End s.left ∷ []) × IsHearing r σ part × HasFew r es × (s.items ≡ σ) × (s.strange ≡ None)

-- the events end within a round
abbrev pub IsWithin : Rules → List Told → List Item → List Told → Sitting → Phase → Type 0
IsWithin r es σ tail s p = IsPart r σ p tail × HasFew r es × (s.items ≡ σ) × (s.strange ≡ None) × (s.left ≡ [])

abbrev pub IsReadIn : Phase → Rules → List Told → List Item → List Told → Sitting → Type 0
IsReadIn Ask r es σ tail s = IsWithin r es σ tail s Ask
IsReadIn (Look a) r es σ tail s = IsWithin r es σ tail s (Look a)
IsReadIn (Send a) r es σ tail s = IsWithin r es σ tail s (Send a)
IsReadIn Hear r es σ tail s = IsWithin r es σ tail s Hear
IsReadIn (Done v) r es σ tail s = EndsWith r es σ tail s v

-- the events are read as this: the items, the strange text, what is left, and the verdict or what is waited for
pub record IsReading (r : Rules) (es : List Told) (s : Sitting) : Type 0 where
  pub items : List Item
  pub tail : List Told
  pub cut : IsCut r es items tail
  pub read : IsReadIn s.phase r es items tail s

-- the table makes of the events a state with this phase, these items and these texts
pub record IsMade (r : Rules) (es : List Told) (s : Sitting) : Type 0 where
  pub state : Sitting
  pub run : Run r opening es state
  pub phase : state.phase ≡ s.phase
  pub items : state.items ≡ s.items
  pub strange : state.strange ≡ s.strange
  pub left : state.left ≡ s.left
