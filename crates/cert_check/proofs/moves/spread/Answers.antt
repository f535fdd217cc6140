use Rattle.std.proofs.Common.{◌∙◌}
use Rattle.cert_check.proofs.RunLaws.{IsRunning-none, IsRunning-more, IsRunning-all, target_below}
use Rattle.cert_check.proofs.moves.spread.Goals as goal

pub moves-init : goal.moves-init
moves-init c = record {
  states = c.requires.states;
  running = IsRunning-none _ _ _;
}

pub add-requires : goal.add-requires
add-requires c = rw c.moves.invariant.states (target_below c.args.lts.now c.args.state c.args.act _ _ _ c.moves_with-moves.ensures c.moves-test.true)

pub moves-preserved : goal.moves-preserved
moves-preserved c = record {
  states = c.in_ok-add.ensures.states ∙ c.moves.invariant.states;
  running = IsRunning-more _ _ _ _ _ _ _ c.moves-test.true (c.moves_with-moves.ensures.each _ _ c.moves-test.true) c.in_ok-add.ensures.added c.moves.invariant.running;
}

pub returns-clause-adds : goal.returns-clause-adds
returns-clause-adds c = IsRunning-all c.args.lts.now c.args.state c.args.act _ _ _ _ c.moves_with-moves.ensures c.moves-test.false c.moves.invariant.running
