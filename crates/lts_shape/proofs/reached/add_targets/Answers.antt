use Rattle.std.proofs.Common.{◌∙◌}
use Rattle.lts_shape.proofs.FollowLaws.{IsLooking-more, IsLooking-all}
use Rattle.lts_shape.proofs.reached.add_targets.Goals as goal

pub moves-preserved : goal.moves-preserved
moves-preserved c = record {
  states = c.in_ok-add.ensures.states ∙ c.moves.invariant.states;
  looking = IsLooking-more _ _ _ _ _ _ _ _ c.moves_of-moves.ensures.these c.moves-test.true c.in_ok-add.ensures.added c.moves.invariant.looking;
}

pub returns-clause-adds : goal.returns-clause-adds
returns-clause-adds c = IsLooking-all _ _ _ _ _ _ c.moves_of-moves.ensures.these c.moves-test.false c.moves.invariant.looking
