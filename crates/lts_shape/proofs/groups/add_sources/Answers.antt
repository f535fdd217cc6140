use Rattle.lts_shape.proofs.GroupLaws.{Adds-sources}
use Rattle.lts_shape.proofs.groups.add_sources.Goals as goal

pub returns-clause-adds : goal.returns-clause-adds
returns-clause-adds c = Adds-sources c.args.lts.now c.args.state _ _ c.requires.state c.in_ok-add_group.ensures.adds
