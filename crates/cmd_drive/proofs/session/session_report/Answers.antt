use Rattle.std.proofs.Common.{ℕ, IfOk, sym, subst}
use Rattle.log_text.specs.declared.log.Head.TheVariants.{Two}
use Rattle.walk_core.specs.declared.walk.WalkError.{WalkError}
use Rattle.walk_core.specs.declared.walk.WalkError.TheVariants.{Full}
use Rattle.walk_core.specs.Refused.{RefusesOpening}
use Rattle.cmd_drive.specs.declared.outcome.DriveOutcome.TheVariants.{Full as SetsFull}
use Rattle.cmd_drive.specs.declared.session.Bounds.{Bounds}
use Rattle.cmd_drive.specs.Asked.{drive_from}
use Rattle.cmd_drive.specs.Drive.{rules_by}
use Rattle.cmd_drive.specs.Given.{IsReportOn, full_log}
use Rattle.cmd_drive.proofs.ReportLaws.{unbegun_told}
use Rattle.cmd_drive.proofs.session.session_report.Goals as goal

pub returns-in-Err-Full-clause-report : goal.returns-in-Err-Full-clause-report
returns-in-Err-Full-clause-report g c =
    let t = c.args.setting in
    let full = subst (λ (e : WalkError). RefusesOpening t.system c.args.request.now.members e) c.in-Err-Full.field-0-is c.in-Err-Full.ensures.err in
    unbegun_told g.D.Link.Link.gives (g.D.Dialer.told c.args.dialer.now) (drive_from c.args.request.now) (rules_by (drive_from c.args.request.now) t.labels t.system t.guiding.goal) t.guiding.guide
    (Two c.args.request.now.divergence t.digest) c.in-Err-Full.reached c.unbegun.result (subst (λ (n : ℕ). RefusesOpening t.system c.args.request.now.members (Full n)) (sym c.in-Err-Full.reached-is) full)
    (subst (λ (b : Bounds). IfOk c.unbegun.result (IsReportOn (Two c.args.request.now.divergence t.digest) (full_log b) (SetsFull c.in-Err-Full.reached))) c.bounds_of.ensures c.unbegun.ensures)
