use Rattle.cmd_outs.proofs.TakenLaws.{advance_all}
use Rattle.cmd_outs.proofs.taken.advance.Goals as goal

pub returns : goal.returns
returns c = advance_all c.args.lts.now c.args.state c.args.count c.moves.m-index c.moves_of-moves.result.now _ _ c.moves_of-moves.ensures.these c.moves-test.false c.moves.invariant
