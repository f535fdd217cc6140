-- What a report tells of a session.
use Rattle.std.proofs.Common.{◌≡◌, ◌∙◌, ℕ, List, [], ◌∷◌, Option, Result, Ok, Err, IfOk, inl, inr, ◌⊎◌, refl, sym, ap, subst}
use Rattle.lts_base.specs.declared.memory.Memory.{Memory}
use Rattle.log_text.specs.declared.log.Head.{Head}
use Rattle.log_text.specs.declared.log.Log.{Log}
use Rattle.log_text.specs.Logs.{AreLogsOf}
use Rattle.log_text.specs.Printed.{printed}
use Rattle.session_core.specs.Logged.{log_of}
use Rattle.session_core.specs.Table.{Rules, Sitting, opening}
use Rattle.tool_base.specs.declared.report.Report.{Report}
use Rattle.walk_core.specs.declared.walk.WalkError.TheVariants.{Full as WalkFull}
use Rattle.walk_core.specs.Refused.{RefusesOpening}
use Rattle.cmd_drive.specs.declared.guide.Guide.{Guide}
use Rattle.cmd_drive.specs.declared.outcome.DriveOutcome.{DriveOutcome}
use Rattle.cmd_drive.specs.declared.outcome.DriveOutcome.TheVariants.{Full}
use Rattle.cmd_drive.specs.Asked.{AskedDrive}
use Rattle.cmd_drive.specs.Dialled.{Dialled, dialled}
use Rattle.cmd_drive.specs.Drive.{ending_by, Goes}
use Rattle.cmd_drive.specs.Given.{IsReportOn, IsSessionReport, IsOver}
use Rattle.edge_io.specs.declared.act.Act.{Act}
use Rattle.edge_io.specs.Dials.{ToldDialer}
use Rattle.log_text.specs.declared.log.Ending.{Ending}
use Rattle.log_text.specs.declared.log.Ending.TheVariants.{Full as EndFull}

-- a report that tells of a session that went so
pub session_told : (run : Dialled) (asked : AskedDrive) (r : Rules) (guide : Guide) (head : Head) (outcome : DriveOutcome) (sitting : Sitting) (result : Result (Report DriveOutcome) Memory) → Goes run asked r guide outcome sitting →
    IfOk result (IsReportOn head (log_of r sitting (ending_by outcome)) outcome) → IfOk result (IsSessionReport run asked r guide head)
session_told run asked r guide head outcome sitting (Err memory) goes told = tt
session_told run asked r guide head outcome sitting (Ok report) goes told = record {
  sitting = sitting;
  goes = subst (λ (o : DriveOutcome). Goes run asked r guide o sitting) (sym told.outcome_is) goes;
  text_is = told.text_is ∙ ap (λ (o : DriveOutcome). printed (record { head = head; log = log_of r sitting (ending_by o) })) (sym told.outcome_is);
  read = subst (λ (o : DriveOutcome). AreLogsOf report.text (record { head = head; log = log_of r sitting (ending_by o) } ∷ [])) (sym told.outcome_is) told.read;
}

-- the same for the rules, the log and the ending as the code has them
pub session_told_by : (run : Dialled) (asked : AskedDrive) (r before later : Rules) (guide : Guide) (head : Head) (outcome : DriveOutcome) (sitting : Sitting) (log : Log) (ending : Ending) (result : Result (Report DriveOutcome) Memory) →
    before ≡ r → later ≡ before → ending ≡ ending_by outcome → log ≡ log_of later sitting ending → IsOver run asked before guide outcome sitting → IfOk result (IsReportOn head log outcome) → IfOk result (IsSessionReport run asked r guide head)
session_told_by run asked r before later guide head outcome sitting log ending result same kept ends is over told =
    let log_is : log ≡ log_of r sitting (ending_by outcome) = is ∙ ap (λ (x : Rules). log_of x sitting ending) (kept ∙ same) ∙ ap (λ (e : Ending). log_of r sitting e) ends in
    session_told run asked r guide head outcome sitting result (inr (subst (λ (x : Rules). IsOver run asked x guide outcome sitting) same over))
    (subst (λ (l : Log). IfOk result (IsReportOn head l outcome)) log_is told)

-- a session whose set after the empty trace is too large
pub unbegun_told : {S : Type 0} (gives : S → Act → S → Type 0) (told : ToldDialer) (asked : AskedDrive) (r : Rules) (guide : Guide) (head : Head) (reached : ℕ) (result : Result (Report DriveOutcome) Memory) → RefusesOpening r.system asked.members (WalkFull reached) →
    IfOk result (IsReportOn head (log_of r opening EndFull) (Full reached)) → IfOk result (IsSessionReport (dialled gives told told) asked r guide head)
unbegun_told {S} gives told asked r guide head reached result refuses is =
    session_told (dialled gives told told) asked r guide head (Full reached) opening result (inl (record { reached = reached; refuses = refuses; outcome_is = refl; sitting_is = refl; same = refl })) is
