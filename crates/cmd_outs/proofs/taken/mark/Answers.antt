use Rattle.cmd_outs.proofs.TakenLaws.{mark_all}
use Rattle.cmd_outs.proofs.taken.mark.Goals as goal

pub returns : goal.returns
returns c = mark_all c.args.lts.now c.args.state c.moves.m-index c.moves_of-moves.result.now _ _ c.moves_of-moves.ensures.these c.moves-test.false c.moves.invariant
