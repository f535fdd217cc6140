-- Promise: what a drive asks of its dialer.
use Rattle.std.specs.Prelude.{◌≡◌, ℕ, ◌<◌, List, Option, None, Some, Result, Ok, Err, ◌⊎◌}
use Rattle.edge_io.specs.declared.act.Act.{Act}
use Rattle.edge_io.specs.declared.dialer.DialError.{DialError}
use Rattle.edge_io.specs.Dials.{Dial, ToldDialer, KeepsDialer, DialerFails, DialerIdles, AreOpen}
use Rattle.edge_io.specs.Outside.{Grew}
use Rattle.torx_words.specs.Accepted.{asked}
use Rattle.tool_base.specs.declared.refusal.Stop.{Stop}
use Rattle.tool_base.specs.declared.refusal.Stop.TheVariants.{Memory}
use Rattle.tool_base.specs.declared.report.Report.{Report}
use Rattle.cmd_drive.specs.declared.outcome.DriveOutcome.{DriveOutcome}
use Rattle.cmd_drive.specs.declared.outcome.DriveOutcome.TheVariants.{Ended, Broken}
use Rattle.session_core.specs.declared.verdict.Verdict.TheVariants.{Stalled}
use Rattle.cmd_drive.specs.Asked.{AskedDrive, drive_shape, drive_of}

-- what the links of a dialer may do, and what the dialer tells before and after a run
pub record Dialled : Type 1 where
  pub State : Type 0
  pub gives : State → Act → State → Type 0
  pub old : ToldDialer
  pub new : ToldDialer

-- the links of a dialer go by this relation, and this is what it tells before and after
abbrev pub dialled : {S : Type 0} → (S → Act → S → Type 0) → ToldDialer → ToldDialer → Dialled
dialled {S} gives old new = record { State = S; gives = gives; old = old; new = new }

-- a dial to the address that is asked for, with its tick, and why it gave no link, where it gave none
abbrev pub dial_of : AskedDrive → Option DialError → Dial
dial_of asked refused = record { address = asked.address; tick = asked.tick; refused = refused }

-- a link was hung up with these acts, where it kept them; where it broke, its count of faults isn't 0, and the dialer's rose;
-- where the session stalled over it, its count of idle answers isn't 0, and the dialer's rose
pub record IsHungUp (old new : ToldDialer) (acts : Option (List Act)) (outcome : DriveOutcome) : Type 0 where
  pub faults : ℕ
  pub idles : ℕ
  pub entry : Grew old.ended new.ended (record { acts = acts; faults = faults; idles = idles })
  pub broke : outcome ≡ Broken → 0 < faults
  pub fails : (faults ≡ 0) ⊎ DialerFails old new
  pub stalled : outcome ≡ Ended Stalled → 0 < idles
  pub waits : (idles ≡ 0) ⊎ DialerIdles old new

-- the answer is that of a session, or memory ran out
abbrev pub IsOwn : Result (Report DriveOutcome) Stop → Type 0
IsOwn (Ok report) = Unit {0}
IsOwn (Err stop) = stop ≡ Memory

-- the dialer was asked for one link, to the address that the words ask for
pub record AsksOnce (words : List (List ℕ)) (old new : ToldDialer) (result : Result (Report DriveOutcome) Stop) : Type 0 where
  pub q : AskedDrive
  pub asks : asked drive_shape drive_of words ≡ Ok q
  pub refused : Option DialError
  pub dial : Grew old.asked new.asked (dial_of q refused)
  pub own : IsOwn result

-- as many links were hung up as were dialled; the dialer is as before, or it was asked for one link
pub record Dials (words : List (List ℕ)) (old new : ToldDialer) (result : Result (Report DriveOutcome) Stop) : Type 0 where
  pub hung_up : AreOpen 0 old new
  pub keeps : KeepsDialer old new
  pub dials : (new ≡ old) ⊎ AsksOnce words old new result
