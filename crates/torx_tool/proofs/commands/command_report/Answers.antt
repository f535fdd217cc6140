use Rattle.torx_tool.proofs.ServedLaws.{served_drive}
use Rattle.torx_tool.proofs.commands.command_report.Goals as goal

pub returns-in-Check-clause-report : goal.returns-in-Check-clause-report
returns-in-Check-clause-report g c = rw c.in-Check.is (c.check.result, c.check.ensures.answers, c.reported.ensures)

pub returns-in-Verify-clause-report : goal.returns-in-Verify-clause-report
returns-in-Verify-clause-report g c = rw c.in-Verify.is (c.verify.result, c.verify.ensures.answers, c.reported-in-Verify.ensures)

pub returns-in-Outs-clause-report : goal.returns-in-Outs-clause-report
returns-in-Outs-clause-report g c = rw c.in-Outs.is (c.outs.result, c.outs.ensures.answers, c.reported-in-Outs.ensures)

pub returns-in-Angelic-clause-report : goal.returns-in-Angelic-clause-report
returns-in-Angelic-clause-report g c = rw c.in-Angelic.is (c.angelic.result, c.angelic.ensures.answers, c.reported-in-Angelic.ensures)

pub returns-in-Replay-clause-report : goal.returns-in-Replay-clause-report
returns-in-Replay-clause-report g c = rw c.in-Replay.is (c.replay.result, c.replay.ensures.answers, c.reported-in-Replay.ensures)

pub returns-in-Migrate-clause-report : goal.returns-in-Migrate-clause-report
returns-in-Migrate-clause-report g c = rw c.in-Migrate.is (c.migrate.result, c.migrate.ensures.answers, c.reported-in-Migrate.ensures)

pub returns-in-Demo-clause-report : goal.returns-in-Demo-clause-report
returns-in-Demo-clause-report g c = rw c.in-Demo.is (c.demo.result, c.demo.ensures _ _, c.reported-in-Demo.ensures)

pub returns-in-Drive-clause-report : goal.returns-in-Drive-clause-report
returns-in-Drive-clause-report g c = rw c.in-Drive.is (c.drive.result, c.drive.ensures.answers, c.reported-in-Drive.ensures)

pub returns-in-Drive-clause-served : goal.returns-in-Drive-clause-served
returns-in-Drive-clause-served g c = rw c.in-Drive.is (served_drive _ _ _ c.drive.result _ c.drive.ensures.dials c.reported-in-Drive.ensures)

pub returns-in-Rehearse-clause-report : goal.returns-in-Rehearse-clause-report
returns-in-Rehearse-clause-report g c = rw c.in-Rehearse.is (c.rehearse.result, c.rehearse.ensures.answers, c.reported-in-Rehearse.ensures)
