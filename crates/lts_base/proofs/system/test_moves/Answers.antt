use Rattle.std.proofs.lemmas.List.Elements.{All-more}
use Rattle.lts_base.specs.System.{IsMoveOf}
use Rattle.lts_base.proofs.MoveLaws.{all_from_taken}
use Rattle.lts_base.proofs.system.test_moves.Goals as goal

pub loop-index-preserved : goal.loop-index-preserved
loop-index-preserved c = All-more (IsMoveOf c.args.states c.args.labels) c.args.moves.now c.loop-index.index _ c.loop-index-test.true c.loop-index.invariant c.in_ok-test_move.ensures

pub returns : goal.returns
returns c = all_from_taken (IsMoveOf c.args.states c.args.labels) c.args.moves.now c.loop-index.index c.loop-index-test.false c.loop-index.invariant
