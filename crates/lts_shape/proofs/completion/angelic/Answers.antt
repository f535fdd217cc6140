use Rattle.lts_shape.proofs.AngelicLaws.{exactly}
use Rattle.lts_shape.proofs.completion.angelic.Goals as goal

pub returns-clause-exact : goal.returns-clause-exact
returns-clause-exact c t is = exactly c.args.lts.now t c.whole.result is c.whole.ensures.ok c.whole.ensures.within c.whole.ensures.err
