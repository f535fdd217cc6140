use Rattle.std.proofs.Common.{◌++◌}
use Rattle.aut_text.proofs.LoadLaws.{past_as}
use Rattle.aut_text.proofs.load.past_most.Goals as goal

pub returns : goal.returns
returns c content read = rw (c.answered.ensures) (past_as (content ++ c.args.last.now) c.in-Err.error (c.in-Err.ensures.told content read))
