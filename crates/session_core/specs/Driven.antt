-- Promise: what drives a session, and what it did.
use Rattle.std.specs.Prelude.{◌≡◌, ℕ, List, [], ◌∷◌, ◌++◌, map, Option, ◌⊎◌, slice_index_or as get_or, Result, Ok, Err}
use Rattle.lts_base.specs.declared.item.Item.{Item}
use Rattle.edge_io.specs.declared.act.Heard.{Heard}
use Rattle.edge_io.specs.declared.act.Heard.TheVariants.{Line as HeardLine, Idle as HeardIdle, IdleMid as HeardMid, TooLong as HeardLong, End as HeardEnd}
use Rattle.edge_io.specs.declared.act.Act.{Act}
use Rattle.edge_io.specs.declared.act.Act.TheVariants.{Looked, Listened, Gave}
use Rattle.edge_io.specs.Outside.{Gains}
use Rattle.edge_io.specs.Links.{ToldLink, Leads}
use Rattle.walk_core.specs.declared.choice.Choice.{Choice}
use Rattle.walk_core.specs.declared.walk.WalkError.{WalkError}
use Rattle.walk_core.specs.declared.walk.WalkError.TheVariants.{Full as WalkFull, Memory as WalkMemory}
use Rattle.session_core.specs.declared.verdict.Verdict.{Verdict}
use Rattle.session_core.specs.declared.phase.Phase.{Phase}
use Rattle.session_core.specs.declared.phase.Phase.TheVariants.{Ask, Look, Send, Hear, Done}
use Rattle.session_core.specs.declared.turn.DriveError.{DriveError}
use Rattle.session_core.specs.declared.turn.DriveError.TheVariants.{Broken, Full, Memory}
use Rattle.session_core.specs.Told.{Told, Chosen, Line, Idle, IdleMid, TooLong, End, Sent}
use Rattle.session_core.specs.Table.{Rules, Sitting}
use Rattle.session_core.specs.Reading.{IsReading}
use Rattle.session_core.specs.Offers.{AreOffers}
use Rattle.session_core.specs.Seat.{Seat, Takes, Refuses}

-- one deed: the chooser's answer, or an act of the link
pub data Deed : Type 0 where
  Picked : Choice → Deed
  Acted : Act → Deed

-- an answer of a link as an event
abbrev pub told_of : Heard → List ℕ → Told
told_of HeardLine text = Line text
told_of HeardIdle text = Idle
told_of HeardMid text = IdleMid text
told_of HeardLong text = TooLong text
told_of HeardEnd text = End text

abbrev pub event_of_act : Act → Told
event_of_act (Looked heard text) = told_of heard text
event_of_act (Listened heard text) = told_of heard text
event_of_act (Gave text) = Sent

abbrev pub event_of : Deed → Told
event_of (Picked c) = Chosen c
event_of (Acted act) = event_of_act act

-- the acts among the deeds
abbrev pub acts_of : List Deed → List Act
acts_of [] = []
acts_of (Picked c ∷ deeds) = acts_of deeds
acts_of (Acted act ∷ deeds) = act ∷ acts_of deeds

abbrev pub input_text : Rules → ℕ → List ℕ
input_text r a = get_or r.texts a []

-- the act that the phase waits for: a look before an input, the text of the input, or a hearing
abbrev pub IsDue : Rules → Phase → Act → Type 0
IsDue r (Look a) (Looked heard text) = Unit {0}
IsDue r Hear (Listened heard text) = Unit {0}
IsDue r (Send a) (Gave text) = text ≡ input_text r a
IsDue r other act = ⊥

-- a session, its chooser, the state of its link and the acts that the link keeps
pub record Playing (C S : Type 0) : Type 0 where
  pub seat : Seat
  pub chooser : C
  pub link : S
  pub acts : Option (List Act)

-- a session, a chooser and a link at one moment
abbrev pub at_once : {C S : Type 0} → Seat → C → S → ToldLink → Playing C S
at_once seat chooser link told = record { seat = seat; chooser = chooser; link = link; acts = told.acts }

-- the chooser answers, asked with the offers and the items
abbrev pub Answers : {C S : Type 0} → (C → List ℕ → List Item → Choice × C) → Playing C S → Choice → Playing C S → Type 0
Answers answer p c q = (offers : List ℕ) × AreOffers p.seat.rules p.seat.sitting.items offers ×
    ((c, q.chooser) ≡ answer p.chooser offers p.seat.sitting.items) × (q.link ≡ p.link) × (q.acts ≡ p.acts)

-- the link acts
abbrev pub Acts : {C S : Type 0} → (S → Act → S → Type 0) → Playing C S → Act → Playing C S → Type 0
Acts gives p act q = IsDue p.seat.rules p.seat.sitting.phase act × gives p.link act q.link × Gains p.acts q.acts (act ∷ []) × (q.chooser ≡ p.chooser)

-- one deed, whose event the session takes
abbrev pub Does : {C S : Type 0} → (C → List ℕ → List Item → Choice × C) → (S → Act → S → Type 0) → Playing C S → Deed → Playing C S → Type 0
Does answer gives p (Picked c) q = Answers answer p c q × Takes p.seat (Chosen c) q.seat
Does answer gives p (Acted act) q = Acts gives p act q × Takes p.seat (event_of_act act) q.seat

-- the deeds, one after the other
abbrev pub Plays : {C S : Type 0} → (C → List ℕ → List Item → Choice × C) → (S → Act → S → Type 0) → Playing C S → List Deed → Playing C S → Type 0
Plays answer gives p [] q = q ≡ p
Plays {C} {S} answer gives p (d ∷ ds) q = (m : Playing C S) × Does answer gives p d m × Plays answer gives m ds q

-- one deed leads from p to q
pub record HasDone {C S : Type 0} (answer : C → List ℕ → List Item → Choice × C) (gives : S → Act → S → Type 0) (p q : Playing C S) : Type 0 where
  pub deed : Deed
  pub does : Does answer gives p deed q

-- some deeds lead from p to q
pub record HasPlayed {C S : Type 0} (answer : C → List ℕ → List Item → Choice × C) (gives : S → Act → S → Type 0) (p q : Playing C S) : Type 0 where
  pub deeds : List Deed
  pub plays : Plays answer gives p deeds q

-- a deed whose event the session refused: the session is as before
abbrev pub Refused : {C S : Type 0} → (C → List ℕ → List Item → Choice × C) → (S → Act → S → Type 0) → Playing C S → WalkError → Playing C S → Type 0
Refused answer gives p error q = ((c : Choice) × Answers answer p c q × Refuses p.seat (Chosen c) error × (q.seat ≡ p.seat)) ⊎
    ((act : Act) × Acts gives p act q × Refuses p.seat (event_of_act act) error × (q.seat ≡ p.seat))

-- a call of the link that failed: nothing is said of the link's state
abbrev pub Broke : {C S : Type 0} → Playing C S → Playing C S → Type 0
Broke p q = (q.seat ≡ p.seat) × (q.chooser ≡ p.chooser) × (q.acts ≡ p.acts)

-- why a turn stopped, and what is left
abbrev pub Stopped : {C S : Type 0} → (C → List ℕ → List Item → Choice × C) → (S → Act → S → Type 0) → Playing C S → DriveError → Playing C S → Type 0
Stopped answer gives p Broken q = Broke p q
Stopped answer gives p (Full reached) q = Refused answer gives p (WalkFull reached) q
Stopped answer gives p Memory q = Refused answer gives p WalkMemory q

abbrev pub IsTurned : {C S T : Type 0} → (C → List ℕ → List Item → Choice × C) → (S → Act → S → Type 0) → Playing C S → Result T DriveError → Playing C S → Type 0
IsTurned answer gives p (Ok x) q = HasDone answer gives p q
IsTurned answer gives p (Err e) q = Stopped answer gives p e q

-- what a whole drive made
abbrev pub IsDriven : {C S : Type 0} → (C → List ℕ → List Item → Choice × C) → (S → Act → S → Type 0) → Playing C S → Result Verdict DriveError → Playing C S → Type 0
IsDriven answer gives p (Ok v) q = HasPlayed answer gives p q × (q.seat.sitting.phase ≡ Done v)
IsDriven {C} {S} answer gives p (Err e) q = (m : Playing C S) × HasPlayed answer gives p m × Stopped answer gives m e q

-- what a turn of a session with its chooser and its link made
abbrev pub IsTurnOf : {C S K T : Type 0} → (C → List ℕ → List Item → Choice × C) → (S → Act → S → Type 0) → (K → S) → (K → ToldLink) → Seat → C → K → Result T DriveError → Seat → C → K → Type 0
IsTurnOf answer gives state told p c k result q d l = IsTurned answer gives (at_once p c (state k) (told k)) result (at_once q d (state l) (told l))

-- what a drive of a session with its chooser and its link made
abbrev pub IsDriveOf : {C S K : Type 0} → (C → List ℕ → List Item → Choice × C) → (S → Act → S → Type 0) → (K → S) → (K → ToldLink) → Seat → C → K → Result Verdict DriveError → Seat → C → K → Type 0
IsDriveOf answer gives state told p c k result q d l = IsDriven answer gives (at_once p c (state k) (told k)) result (at_once q d (state l) (told l))

-- what a drive from the opening did, as its log says it: the events of its deeds are read so, the acts among them lead the link
-- from its state before to its state after, and where the link keeps its acts its list gained these
pub record IsLogged {C S : Type 0} (answer : C → List ℕ → List Item → Choice × C) (gives : S → Act → S → Type 0) (p q : Playing C S) : Type 0 where
  pub deeds : List Deed
  pub plays : Plays answer gives p deeds q
  pub reading : IsReading p.seat.rules (map event_of deeds) q.seat.sitting
  pub leads : Leads gives p.link (acts_of deeds) q.link
  pub acts : Gains p.acts q.acts (acts_of deeds)

-- after a refusal this holds of what was done before it
abbrev pub IsLoggedDrive : {C S : Type 0} → (C → List ℕ → List Item → Choice × C) → (S → Act → S → Type 0) → Playing C S → Result Verdict DriveError → Playing C S → Type 0
IsLoggedDrive answer gives p (Ok v) q = IsLogged answer gives p q × (q.seat.sitting.phase ≡ Done v)
IsLoggedDrive {C} {S} answer gives p (Err e) q = (m : Playing C S) × IsLogged answer gives p m × Stopped answer gives m e q

-- what a drive from the opening of a session with its chooser and its link made
abbrev pub IsLoggedDriveOf : {C S K : Type 0} → (C → List ℕ → List Item → Choice × C) → (S → Act → S → Type 0) → (K → S) → (K → ToldLink) → Seat → C → K → Result Verdict DriveError → Seat → C → K → Type 0
IsLoggedDriveOf answer gives state told p c k result q d l = IsLoggedDrive answer gives (at_once p c (state k) (told k)) result (at_once q d (state l) (told l))
