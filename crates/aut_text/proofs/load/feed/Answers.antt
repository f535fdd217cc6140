use Rattle.std.proofs.Common.{rules}
use Rattle.aut_text.proofs.load.feed.Goals as goal

pub returns-in-Ok-clause-ok : goal.returns-in-Ok-clause-ok
returns-in-Ok-clause-ok c content read = (search rules, c.feed.ensures.read content read)
