use Rattle.aut_text.proofs.LoadLaws.{refused_as}
use Rattle.aut_text.proofs.load.end.Goals as goal

pub returns-in-Err : goal.returns-in-Err
returns-in-Err c content read = rw (c.answered.ensures) (refused_as content c.in-Err.error (c.in-Err.ensures.read content read))
