use Rattle.lts_base.proofs.FindLaws.{Adds-quiet}
use Rattle.cert_check.proofs.sets.rest.Goals as goal

pub returns-in_ok-add-clause-adds : goal.returns-in_ok-add-clause-adds
returns-in_ok-add-clause-adds c = Adds-quiet c.args.side.now _ _ _ (c.is_quiet.ensures.0 c.if-is_quiet.true) c.in_ok-add.ensures.added
