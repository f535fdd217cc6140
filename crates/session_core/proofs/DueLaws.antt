-- The act that a phase waits for, and its event.
use Rattle.std.proofs.Common.{◌≡◌, ℕ, List, refl, sym, ap}
use Rattle.edge_io.specs.declared.act.Heard.{Heard}
use Rattle.edge_io.specs.declared.act.Act.{Act}
use Rattle.edge_io.specs.declared.act.Act.TheVariants.{Looked, Listened, Gave}
use Rattle.session_core.specs.declared.event.Action.{Action}
use Rattle.session_core.specs.declared.event.Action.TheVariants.{Ask as ActionAsk, Look as ActionLook, Send as ActionSend, Hear as ActionHear, Done as ActionDone}
use Rattle.session_core.specs.declared.phase.Phase.{Phase}
use Rattle.session_core.specs.declared.phase.Phase.TheVariants.{Ask, Look, Send, Hear, Done}
use Rattle.session_core.specs.Table.{Rules}
use Rattle.walk_core.specs.declared.choice.Choice.{Choice}
use Rattle.session_core.specs.Fitting.{action_of}
use Rattle.session_core.specs.Driven.{IsDue, input_text, told_of, Playing, Refused, Stopped}
use Rattle.session_core.specs.Stopping.{drive_error}
use Rattle.lts_base.specs.declared.item.Item.{Item}
use Rattle.walk_core.specs.declared.walk.WalkError.{WalkError}
use Rattle.walk_core.specs.declared.walk.WalkError.TheVariants.{Full, Memory}

pub due_look : (r : Rules) (p : Phase) (heard : Heard) (text : List ℕ) → ActionLook ≡ action_of p → IsDue r p (Looked heard text)
due_look r Ask heard text e = cc
due_look r (Look a) heard text e = tt
due_look r (Send a) heard text e = cc
due_look r Hear heard text e = cc
due_look r (Done v) heard text e = cc

pub due_hear : (r : Rules) (p : Phase) (heard : Heard) (text : List ℕ) → ActionHear ≡ action_of p → IsDue r p (Listened heard text)
due_hear r Ask heard text e = cc
due_hear r (Look a) heard text e = cc
due_hear r (Send a) heard text e = cc
due_hear r Hear heard text e = tt
due_hear r (Done v) heard text e = cc

pub due_send : (r : Rules) (p : Phase) (a : ℕ) (text : List ℕ) → ActionSend a ≡ action_of p → text ≡ input_text r a → IsDue r p (Gave text)
due_send r Ask a text e is = cc
due_send r (Look b) a text e is = cc
due_send r (Send b) a text e is = let same : a ≡ b = cc in rw (← same) is
due_send r Hear a text e is = cc
due_send r (Done v) a text e is = cc

-- a refused event stops the drive
pub stopped_refused : {C S : Type 0} (answer : C → List ℕ → List Item → Choice × C) (gives : S → Act → S → Type 0) (p q : Playing C S) (error : WalkError) → Refused answer gives p error q → Stopped answer gives p (drive_error error) q
stopped_refused answer gives p q (Full reached) refused = refused
stopped_refused answer gives p q Memory refused = refused
