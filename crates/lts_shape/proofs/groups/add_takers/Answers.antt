use Rattle.lts_shape.proofs.GroupLaws.{Adds-takes}
use Rattle.lts_shape.proofs.groups.add_takers.Goals as goal

pub returns-clause-adds : goal.returns-clause-adds
returns-clause-adds c = Adds-takes c.args.lts.now c.args.label _ _ c.states-states.ensures.system (rw c.states-states.ensures.states at c.in_ok-add_group.ensures.adds)
