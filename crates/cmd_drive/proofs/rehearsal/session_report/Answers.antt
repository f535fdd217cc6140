use Rattle.std.proofs.Common.{ℕ, IfOk, sym, subst}
use Rattle.log_text.specs.declared.log.Head.TheVariants.{Two}
use Rattle.walk_core.specs.declared.walk.WalkError.{WalkError}
use Rattle.walk_core.specs.declared.walk.WalkError.TheVariants.{Full}
use Rattle.walk_core.specs.Refused.{RefusesOpening}
use Rattle.cmd_drive.specs.declared.outcome.DriveOutcome.TheVariants.{Full as SetsFull}
use Rattle.cmd_drive.specs.declared.session.Bounds.{Bounds}
use Rattle.cmd_drive.specs.AskedRehearse.{rehearse_from}
use Rattle.cmd_drive.specs.Given.{IsReportOn, full_log}
use Rattle.cmd_drive.proofs.SimulateLaws.{started_told, unstarted_told}
use Rattle.cmd_drive.proofs.rehearsal.session_report.Goals as goal

pub returns-in-Ok : goal.returns-in-Ok
returns-in-Ok c = started_told (rehearse_from c.args.request.now) c.args.pair.now c.over_walk.result c.requires.fit c.requires.enabled c.over_walk.ensures

pub returns-in-Err-Full : goal.returns-in-Err-Full
returns-in-Err-Full c =
    let full = subst (λ (e : WalkError). RefusesOpening c.args.pair.now.first c.args.request.now.members e) c.in-Err-Full.field-0-is c.in-Err-Full.ensures.err in
    unstarted_told (rehearse_from c.args.request.now) c.args.pair.now c.in-Err-Full.reached c.unbegun.result c.requires.range c.requires.fit c.requires.enabled
    (subst (λ (n : ℕ). RefusesOpening c.args.pair.now.first c.args.request.now.members (Full n)) (sym c.in-Err-Full.reached-is) full)
    (subst (λ (b : Bounds). IfOk c.unbegun.result (IsReportOn (Two c.args.request.now.divergence c.args.pair.now.digest) (full_log b) (SetsFull c.in-Err-Full.reached))) c.bounds_of.ensures c.unbegun.ensures)
