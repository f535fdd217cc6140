use Rattle.cmd_drive.specs.Asked.{drive_from}
use Rattle.cmd_drive.proofs.LedLaws.{over_linked}
use Rattle.cmd_drive.proofs.session.dialled.Goals as goal

pub returns-in-Ok-clause-over : goal.returns-in-Ok-clause-over
returns-in-Ok-clause-over g c =
    over_linked _ _ _ _ (drive_from c.args.request.now) _ _ _ c.linked.result c.requires.opened c.linked.ensures.led (rw c.in-Ok.is at c.dial.ensures.asked) c.linked.ensures.asked c.dial.ensures.ended c.dial.ensures.later
