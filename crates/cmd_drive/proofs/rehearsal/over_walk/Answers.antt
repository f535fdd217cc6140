use Rattle.cmd_drive.specs.AskedRehearse.{rehearse_from}
use Rattle.cmd_drive.proofs.SimulateLaws.{walk_begun}
use Rattle.cmd_drive.proofs.rehearsal.over_walk.Goals as goal

pub returns : goal.returns
returns g c =
    walk_begun (rehearse_from c.args.request.now) c.args.pair.now _ _ _ _ _ _ _ c.reported.result c.in_ok-session.ensures c.requires.fresh c.requires.limit c.requires.system c.in_ok-outcome.ensures c.ending_of.ensures c.in_ok-log.ensures.log
    c.reported.ensures
