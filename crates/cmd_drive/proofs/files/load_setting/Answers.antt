use Rattle.tool_base.proofs.StoppedLaws.{passed_on}
use Rattle.cmd_drive.specs.Asked.{drive_from}
use Rattle.cmd_drive.proofs.StopLaws.{spec_stopped, guide_stopped, set_up}
use Rattle.cmd_drive.proofs.files.load_setting.Goals as goal

pub returns-in_err-one-clause-loaded : goal.returns-in_err-one-clause-loaded
returns-in_err-one-clause-loaded g c = passed_on _ _ _ _ c.from_residual.ensures.1 (spec_stopped _ _ (drive_from c.args.request.now) _ c.in_err-one.ensures.loaded)

pub returns-in_err-guiding-clause-loaded : goal.returns-in_err-guiding-clause-loaded
returns-in_err-guiding-clause-loaded g c =
    passed_on _ _ _ _ c.from_residual-in_err-guiding.ensures.1
    (guide_stopped _ _ _ (drive_from c.args.request.now) c.in_ok-one.one _ c.in_ok-one.ensures.keeps c.in_ok-one.ensures.loaded c.in_err-guiding.ensures.loaded)

pub returns-clause-loaded : goal.returns-clause-loaded
returns-clause-loaded g c = set_up _ _ (drive_from c.args.request.now) c.in_ok-one.one c.in_ok-guiding.guiding c.in_ok-one.ensures.keeps c.in_ok-one.ensures.loaded c.in_ok-guiding.ensures.loaded
