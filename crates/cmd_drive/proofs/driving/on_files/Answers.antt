use Rattle.cmd_drive.specs.Asked.{drive_from}
use Rattle.cmd_drive.specs.Dialled.{dialled}
use Rattle.cmd_drive.proofs.JudgeLaws.{drive_answers}
use Rattle.cmd_drive.proofs.driving.on_files.Goals as goal

pub returns-clause-page : goal.returns-clause-page
returns-clause-page g c =
    drive_answers (dialled g.D.Link.Link.gives (g.D.Dialer.told c.args.dialer.now) (g.D.Dialer.told c.session_report.new.dialer)) (g.F.Files.told c.args.files.now).content (drive_from c.args.request.now) c.in_ok-setting.setting _
    c.requires.range c.in_ok-setting.ensures.fit c.in_ok-setting.ensures.loaded c.in_ok-report.ensures.report
