use Rattle.std.proofs.Common.{◌∙◌}
use Rattle.lts_shape.proofs.GroupLaws.{IsChained-more}
use Rattle.lts_shape.proofs.groups.add_group.Goals as goal

pub chain-preserved : goal.chain-preserved
chain-preserved c = record {
  states = c.in_ok-add.ensures.states ∙ c.chain.invariant.states;
  chained = IsChained-more _ _ _ _ _ _ _ _ _ _ _ c.requires.groups c.moves-moves.ensures.moves c.chain-test.true c.in_ok-add.ensures.added c.index-next-in-chain.ensures c.chain.invariant.chained;
}
