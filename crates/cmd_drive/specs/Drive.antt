-- Promise: what `drive` answers, and when: the log of a session with the program that was dialled.
-- Tretmans (2008), on-the-fly testing.
use Rattle.std.specs.Prelude.{◌≡◌, ℕ, List, [], ◌∷◌, ◌++◌, length, Option, Some, None, Result, Ok, Err, ◌⊎◌}
use Rattle.std.specs.Option.{option_map_or}
use Rattle.lts_base.specs.declared.divergence.Divergence.{Divergence}
use Rattle.lts_base.specs.declared.item.Item.{Item}
use Rattle.lts_base.specs.Alphabet.{Alphabet}
use Rattle.lts_base.specs.System.{System}
use Rattle.edge_io.specs.declared.dialer.DialError.TheVariants.{Failed as DialFailed}
use Rattle.edge_io.specs.Dials.{DialerFails}
use Rattle.edge_io.specs.Outside.{Grew}
use Rattle.log_text.specs.declared.log.Digest.{Digest}
use Rattle.log_text.specs.declared.log.Ending.{Ending}
use Rattle.log_text.specs.declared.log.Ending.TheVariants.{Full as EndFull, Broken as EndBroken}
use Rattle.log_text.specs.declared.log.Head.TheVariants.{Two}
use Rattle.log_text.specs.declared.log.Named.{Named}
use Rattle.log_text.specs.Logs.{AreLogsOf}
use Rattle.log_text.specs.Printed.{printed}
use Rattle.walk_core.specs.declared.walk.WalkError.TheVariants.{Full as WalkFull}
use Rattle.walk_core.specs.Refused.{RefusesOpening}
use Rattle.walk_core.specs.Walked.{IsFresh}
use Rattle.session_core.specs.declared.turn.DriveError.{DriveError}
use Rattle.session_core.specs.declared.turn.DriveError.TheVariants.{Broken as LinkBroke, Full as SetsFull, Memory as NoRoom}
use Rattle.session_core.specs.declared.verdict.Verdict.{Verdict}
use Rattle.session_core.specs.Table.{Rules, Sitting, opening}
use Rattle.session_core.specs.Seat.{Seat}
use Rattle.session_core.specs.Driven.{Playing, IsLoggedDrive}
use Rattle.session_core.specs.Logged.{log_of}
use Rattle.session_core.specs.Judged.{IsJudged, verdict_of}
use Rattle.tool_base.specs.declared.refusal.Refusal.{Refusal}
use Rattle.tool_base.specs.Contents.{Contents}
use Rattle.tool_base.specs.Kinds.{IsDigestOfFile}
use Rattle.tool_base.specs.Pages.{Page, Command}
use Rattle.tool_base.specs.Sources.{AreSystems, RefusesSources, all_names}
use Rattle.cmd_drive.specs.declared.guide.Guide.{Guide}
use Rattle.cmd_drive.specs.declared.outcome.DriveOutcome.{DriveOutcome}
use Rattle.cmd_drive.specs.declared.outcome.DriveOutcome.TheVariants.{Ended, Full, Broken}
use Rattle.cmd_drive.specs.Asked.{AskedDrive, drive_shape, drive_of, drive_sources, guide_names}
use Rattle.cmd_drive.specs.Guides.{answer_of, IsGuide, RefusesGuide}
use Rattle.cmd_drive.specs.Dialled.{Dialled, dial_of, IsHungUp}

-- what the session goes by
abbrev pub rules_by : AskedDrive → Alphabet → System → Option (List Item) → Rules
rules_by asked a s goal = record { system = s; mode = asked.mode; texts = a.texts; patience = asked.patience; steps = asked.steps; goal = goal }

-- what the log ends with where the session has no verdict
abbrev pub ending_by : DriveOutcome → Ending
ending_by (Ended verdict) = EndBroken
ending_by (Full reached) = EndFull
ending_by Broken = EndBroken

-- the log of the session: in version 2, with how cycles were read and the digest of the specification's file
abbrev pub log_by : Rules → Divergence → Digest → Sitting → DriveOutcome → Named
log_by r divergence digest sitting outcome = record { head = Two divergence digest; log = log_of r sitting (ending_by outcome) }

-- the set after the empty trace alone has more members than there may be: no link is dialled
pub record IsUnbegun (run : Dialled) (asked : AskedDrive) (r : Rules) (outcome : DriveOutcome) (sitting : Sitting) : Type 0 where
  pub reached : ℕ
  pub refuses : RefusesOpening r.system asked.members (WalkFull reached)
  pub outcome_is : outcome ≡ Full reached
  pub sitting_is : sitting ≡ opening
  pub same : run.new ≡ run.old

-- the dial failed
pub record IsUndialled (run : Dialled) (asked : AskedDrive) (outcome : DriveOutcome) (sitting : Sitting) : Type 0 where
  pub outcome_is : outcome ≡ Broken
  pub sitting_is : sitting ≡ opening
  pub dial : Grew run.old.asked run.new.asked (dial_of asked (Some DialFailed))
  pub failed : DialerFails run.old run.new

-- a session before its first event: its walk holds the set after the empty trace alone, and has the limit that is asked for
pub record IsOpened (asked : AskedDrive) (r : Rules) (p : Seat) : Type 0 where
  pub fresh : IsFresh p.walked
  pub limit : p.walked.limit ≡ asked.members
  pub rules : p.rules ≡ r
  pub sitting : p.sitting ≡ opening

-- the outcome of a drive
abbrev pub IsOutcomeOf : Result Verdict DriveError → DriveOutcome → Type 0
IsOutcomeOf (Ok verdict) outcome = outcome ≡ Ended verdict
IsOutcomeOf (Err LinkBroke) outcome = outcome ≡ Broken
IsOutcomeOf (Err (SetsFull reached)) outcome = outcome ≡ Full reached
IsOutcomeOf (Err NoRoom) outcome = ⊥

-- a new link led the session from its opening to this end, and was hung up
pub record IsLed (run : Dialled) (asked : AskedDrive) (r : Rules) (guide : Guide) (outcome : DriveOutcome) (sitting : Sitting) : Type 0 where
  pub begin : Playing Guide run.State
  pub end : Playing Guide run.State
  pub result : Result Verdict DriveError
  pub opened : IsOpened asked r begin.seat
  pub chooser : begin.chooser ≡ guide
  pub no_acts : option_map_or length begin.acts 0 ≡ 0
  pub drove : IsLoggedDrive answer_of run.gives begin result end
  pub outcome_is : IsOutcomeOf result outcome
  pub sitting_is : sitting ≡ end.seat.sitting
  pub ended : IsHungUp run.old run.new end.acts outcome

-- the dialer gave a link, which led the session
abbrev pub IsDriven : Dialled → AskedDrive → Rules → Guide → DriveOutcome → Sitting → Type 0
IsDriven run asked r guide outcome sitting = Grew run.old.asked run.new.asked (dial_of asked None) × IsLed run asked r guide outcome sitting

-- where the session led, and how it ended
abbrev pub Goes : Dialled → AskedDrive → Rules → Guide → DriveOutcome → Sitting → Type 0
Goes run asked r guide outcome sitting = IsUnbegun run asked r outcome sitting ⊎ (IsUndialled run asked outcome sitting ⊎ IsDriven run asked r guide outcome sitting)

-- the system of the file is had, over its alphabet a, but the file of the script or of the goal is refused
pub record RefusesDrive (contents : Contents) (asked : AskedDrive) (refusal : Refusal) : Type 0 where
  pub a : Alphabet
  pub s : System
  pub systems : AreSystems contents (drive_sources asked) a (s ∷ [])
  pub refused : RefusesGuide contents a asked.steps asked.guide refusal

-- the files are read as this system with this digest, this chooser and this goal
pub record IsSetUp (contents : Contents) (asked : AskedDrive) (a : Alphabet) (s : System) (digest : Digest) (guide : Guide) (goal : Option (List Item)) : Type 0 where
  pub systems : AreSystems contents (drive_sources asked) a (s ∷ [])
  pub digested : IsDigestOfFile contents asked.spec digest
  pub guided : IsGuide contents a asked.steps asked.guide guide goal

-- the answer and its text: the session goes by the files, the text is that of its log, and is read again as this log alone, and
-- the log's entries fail exactly where the session has failed, at the same place
pub record AnswersDrive (run : Dialled) (contents : Contents) (asked : AskedDrive) (outcome : DriveOutcome) (text : List ℕ) : Type 0 where
  pub a : Alphabet
  pub s : System
  pub digest : Digest
  pub guide : Guide
  pub goal : Option (List Item)
  pub sitting : Sitting
  pub set_up : IsSetUp contents asked a s digest guide goal
  pub goes : Goes run asked (rules_by asked a s goal) guide outcome sitting
  pub text_is : text ≡ printed (log_by (rules_by asked a s goal) asked.divergence digest sitting outcome)
  pub read : AreLogsOf text (log_by (rules_by asked a s goal) asked.divergence digest sitting outcome ∷ [])
  pub judged : IsJudged (rules_by asked a s goal) (log_of (rules_by asked a s goal) sitting (ending_by outcome)) (verdict_of sitting.phase)

-- the files that are read
abbrev pub drive_names : AskedDrive → List (List ℕ)
drive_names asked = all_names (drive_sources asked) ++ guide_names asked.guide

-- why the files are refused
abbrev pub RefusesFiles : Contents → AskedDrive → Refusal → Type 0
RefusesFiles contents asked r = RefusesSources contents (drive_sources asked) r ⊎ RefusesDrive contents asked r

abbrev pub drive_page : Dialled → Contents → AskedDrive → Page DriveOutcome
drive_page run contents asked = record {
  names = drive_names asked;
  refuses = RefusesFiles contents asked;
  answers = AnswersDrive run contents asked;
}

abbrev pub drive_command : Dialled → Command AskedDrive DriveOutcome
drive_command run = record { shape = drive_shape; asked = drive_of; page = drive_page run }
