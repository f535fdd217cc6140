use Rattle.lts_shape.proofs.GroupLaws.{AreGroups-more, read_group}
use Rattle.lts_shape.proofs.groups.groups_of.Goals as goal

pub moves-preserved : goal.moves-preserved
moves-preserved c =
    let is = rw c.states-states.ensures.states at c.group_of-group.ensures in
    let below = read_group c.args.lts.now _ _ _ _ c.moves-moves.ensures.system c.moves-moves.ensures.moves c.moves-test.true is in
    rw c.in_ok-push.ensures.items (AreGroups-more c.args.lts.now _ _ _ _ _ _ _ c.moves-moves.ensures.moves c.moves-test.true is below c.index.ensures c.moves.invariant)
