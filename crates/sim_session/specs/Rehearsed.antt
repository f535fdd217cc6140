-- Promise: what a session over a simulated implementation comes to.
-- Tretmans (2008), soundness of tests.
use Rattle.std.specs.Prelude.{◌≡◌, ℕ, List, [], ◌∷◌, ◌++◌, None, Result, Ok, Err}
use Rattle.lts_base.specs.declared.item.Item.{Item}
use Rattle.lts_base.specs.System.{System, IsSystem}
use Rattle.lts_base.specs.Path.{Has}
use Rattle.lts_base.specs.Conformance.{IsAllowed, IsViolation}
use Rattle.walk_core.specs.declared.choice.Choice.{Choice}
use Rattle.walk_core.specs.declared.walk.WalkError.{WalkError}
use Rattle.session_core.specs.declared.phase.Phase.{Phase}
use Rattle.session_core.specs.declared.phase.Phase.TheVariants.{Ask, Look, Send, Hear, Done}
use Rattle.session_core.specs.declared.turn.DriveError.{DriveError}
use Rattle.session_core.specs.declared.verdict.Verdict.{Verdict}
use Rattle.session_core.specs.declared.verdict.Verdict.TheVariants.{Pass, Fail, Ended, Stalled, Long}
use Rattle.session_core.specs.Table.{Rules, Sitting, Offered}
use Rattle.session_core.specs.Seat.{Seat}
use Rattle.session_core.specs.Driven.{Playing, IsLoggedDrive}
use Rattle.session_core.specs.Stopping.{drive_error}
use Rattle.sim_core.specs.Acts.{Simulated, GivesSimulated}
use Rattle.sim_core.specs.Seen.{IsSimulated}

-- the simulation begins at its start, and has the labels of the session
pub record AreJoined {R : Type 0} (r : Rules) (x : Simulated R) : Type 0 where
  pub simulated : IsSimulated x
  pub inputs : x.system.inputs ≡ r.system.inputs
  pub texts : x.texts ≡ r.texts
  pub start : x.place.at ≡ x.system.start

-- the last of the items violates: the implementation shows it after an allowed trace, and the specification doesn't
pub record IsLastViolating (r : Rules) (i : System) (items : List Item) : Type 0 where
  pub σ : List Item
  pub x : Item
  pub items_are : items ≡ σ ++ x ∷ []
  pub violation : IsViolation r.mode i r.system σ x

-- the items are allowed, and a chosen input was offered; a session that failed met a violation; it ends in no other way
abbrev pub IsSoundIn : Phase → Rules → System → List Item → Type 0
IsSoundIn Ask r i items = IsAllowed r.mode r.system items
IsSoundIn (Look a) r i items = IsAllowed r.mode r.system items × Offered r items a
IsSoundIn (Send a) r i items = IsAllowed r.mode r.system items × Offered r items a
IsSoundIn Hear r i items = IsAllowed r.mode r.system items
IsSoundIn (Done Pass) r i items = IsAllowed r.mode r.system items
IsSoundIn (Done (Fail k)) r i items = IsLastViolating r i items
IsSoundIn (Done Ended) r i items = ⊥
IsSoundIn (Done Stalled) r i items = ⊥
IsSoundIn (Done Long) r i items = ⊥

-- the items are a suspension trace of the implementation i, no text was strange, and a session that failed met a violation
pub record IsRehearsed (r : Rules) (i : System) (s : Sitting) : Type 0 where
  pub trace : Has i s.items
  pub strange : s.strange ≡ None
  pub sound : IsSoundIn s.phase r i s.items

-- the result of a drive that can't break
abbrev pub drive_result : Result Verdict WalkError → Result Verdict DriveError
drive_result (Ok verdict) = Ok verdict
drive_result (Err error) = Err (drive_error error)

-- a session and its chooser over a simulation, which keeps no acts
abbrev pub over_simulation : {C R : Type 0} → Seat → C → Simulated R → Playing C (Simulated R)
over_simulation seat chooser x = record { seat = seat; chooser = chooser; link = x; acts = None }

-- the session got exactly the answers of its chooser and of the simulation, each once and in order
pub record IsRehearsal {C R : Type 0} (answer : C → List ℕ → List Item → Choice × C) (step : R → ℕ × R) (p : Seat) (c : C) (x : Simulated R) (result : Result Verdict WalkError) (q : Seat) (d : C) : Type 0 where
  pub last : Simulated R
  pub drove : IsLoggedDrive answer (GivesSimulated step) (over_simulation p c x) (drive_result result) (over_simulation q d last)
