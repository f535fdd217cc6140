-- Private: what the code's own types say of the files, and what a part of the work makes of them.
use Rattle.std.specs.Prelude.{◌≡◌, ℕ, [], ◌∷◌, Option, IfSome, Result, MatchResult, ◌⊎◌}
use Rattle.edge_io.specs.declared.dialer.DialError.{DialError}
use Rattle.edge_io.specs.Dials.{ToldDialer, KeepsDialer, AreOpen}
use Rattle.edge_io.specs.Outside.{ToldFiles, Grew}
use Rattle.lts_base.specs.Alphabet.{Alphabet, IsAlphabet, IsOver as IsSystemOver}
use Rattle.lts_base.specs.System.{IsSystem}
use Rattle.tool_base.specs.declared.refusal.Stop.{Stop}
use Rattle.tool_base.specs.declared.report.Report.{Report}
use Rattle.tool_base.specs.Kinds.{IsWithinSteps}
use Rattle.tool_base.specs.Pages.{IsStopped}
use Rattle.cmd_drive.specs.declared.outcome.DriveOutcome.{DriveOutcome}
use Rattle.cmd_drive.specs.declared.files.Guiding.{Guiding}
use Rattle.cmd_drive.specs.declared.files.Setting.{Setting}
use Rattle.cmd_drive.specs.declared.session.Bounds.{Bounds}
use Rattle.log_text.specs.declared.log.Ending.TheVariants.{Full as EndFull}
use Rattle.cmd_drive.specs.Asked.{AskedDrive, guide_names}
use Rattle.cmd_drive.specs.Guides.{IsGuide, RefusesGuide}
use Rattle.cmd_drive.specs.Dialled.{Dialled, IsOwn, dial_of}
use Rattle.cmd_drive.specs.Drive.{IsSetUp, drive_names, RefusesFiles, rules_by, ending_by, Goes, IsUndialled, IsDriven}
use Rattle.cmd_drive.specs.declared.guide.Guide.{Guide}
use Rattle.log_text.specs.Logs.{AreLogsOf, IsDigest}
use Rattle.log_text.specs.Printed.{printed}
use Rattle.log_text.specs.declared.log.Head.{Head}
use Rattle.log_text.specs.declared.log.Head.TheVariants.{Two}
use Rattle.log_text.specs.declared.log.Log.{Log}
use Rattle.session_core.specs.Logged.{log_of}
use Rattle.session_core.specs.Table.{Rules, Sitting}

-- the chooser and the goal are had, or the work stopped
abbrev pub LoadsGuide : ToldFiles → ToldFiles → Alphabet → AskedDrive → Result Guiding Stop → Type 0
LoadsGuide old new a asked result = MatchResult result (λ g. IsGuide old.content a asked.steps asked.guide g.guide g.goal)
    (IsStopped old new (guide_names asked.guide) (RefusesGuide old.content a asked.steps asked.guide))

-- the files are read, or the work stopped
abbrev pub LoadsSetting : ToldFiles → ToldFiles → AskedDrive → Result Setting Stop → Type 0
LoadsSetting old new asked result = MatchResult result (λ t. IsSetUp old.content asked t.labels t.system t.digest t.guiding.guide t.guiding.goal)
    (IsStopped old new (drive_names asked) (RefusesFiles old.content asked))

-- the system is over the alphabet, the digest is one, and the goal is within the steps
pub record IsFit (steps : ℕ) (t : Setting) : Type 0 where
  pub alphabet : IsAlphabet t.labels
  pub system : IsSystem t.system
  pub over : IsSystemOver t.labels t.system
  pub digest : IsDigest t.digest
  pub goal : IfSome t.guiding.goal (IsWithinSteps steps)

-- what is asked of the dialer for these words
pub record DialsFor (asked : AskedDrive) (old new : ToldDialer) (result : Result (Report DriveOutcome) Stop) : Type 0 where
  pub hung_up : AreOpen 0 old new
  pub keeps : KeepsDialer old new
  pub dials : (new ≡ old) ⊎ (((refused : Option DialError) × Grew old.asked new.asked (dial_of asked refused)) × IsOwn result)

-- what is asked of the dialer by the part of the work that dials
pub record DialsNow (asked : AskedDrive) (old new : ToldDialer) : Type 0 where
  pub hung_up : AreOpen 0 old new
  pub keeps : KeepsDialer old new
  pub dials : (new ≡ old) ⊎ ((refused : Option DialError) × Grew old.asked new.asked (dial_of asked refused))

-- the log of a session without an event, whose first set is too large
abbrev pub full_log : Bounds → Log
full_log b = record { mode = b.mode; patience = b.patience; steps = b.steps; entries = []; left = []; ending = EndFull }

-- the report has this outcome, and its text is that of this log with this head, and is read again as it alone
pub record IsReportOn (head : Head) (log : Log) (outcome : DriveOutcome) (report : Report DriveOutcome) : Type 0 where
  pub outcome_is : report.outcome ≡ outcome
  pub text_is : report.text ≡ printed (record { head = head; log = log })
  pub read : AreLogsOf report.text (record { head = head; log = log } ∷ [])

-- the report tells of a session by these rules, and its text is that of the session's log with this head
pub record IsSessionReport (run : Dialled) (asked : AskedDrive) (r : Rules) (guide : Guide) (head : Head) (report : Report DriveOutcome) : Type 0 where
  pub sitting : Sitting
  pub goes : Goes run asked r guide report.outcome sitting
  pub text_is : report.text ≡ printed (record { head = head; log = log_of r sitting (ending_by report.outcome) })
  pub read : AreLogsOf report.text (record { head = head; log = log_of r sitting (ending_by report.outcome) } ∷ [])

abbrev pub IsReportOf : Dialled → AskedDrive → Setting → Report DriveOutcome → Type 0
IsReportOf run asked t report = IsSessionReport run asked (rules_by asked t.labels t.system t.guiding.goal) t.guiding.guide (Two asked.divergence t.digest) report

-- what dialling made of a session
abbrev pub IsOver : Dialled → AskedDrive → Rules → Guide → DriveOutcome → Sitting → Type 0
IsOver run asked r guide outcome sitting = IsUndialled run asked outcome sitting ⊎ IsDriven run asked r guide outcome sitting
