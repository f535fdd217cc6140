use Rattle.std.proofs.Common.{ap}
use Rattle.session_core.specs.Seat.{Seat}
use Rattle.session_core.specs.Table.{Rules}
use Rattle.cmd_drive.proofs.ReportLaws.{session_told_by}
use Rattle.cmd_drive.proofs.session.begun.Goals as goal

pub returns-clause-report : goal.returns-clause-report
returns-clause-report g c =
    session_told_by _ _ _ _ _ _ _ c.in_ok-outcome.outcome _ c.in_ok-log.log _ c.reported.result (ap {A = Seat} {B = Rules} (λ p. p.rules) c.in_ok-session.ensures) c.in_ok-outcome.ensures.rules
    c.ending_of.ensures c.in_ok-log.ensures.log c.in_ok-outcome.ensures.over c.reported.ensures
