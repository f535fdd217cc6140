use Rattle.cert_check.proofs.RunLaws.{some_run}
use Rattle.cert_check.proofs.moves.has_move.Goals as goal

pub returns : goal.returns
returns c = some_run c.args.lts.now c.args.state c.args.act _ _ c.moves_with.ensures c.is_empty.ensures
