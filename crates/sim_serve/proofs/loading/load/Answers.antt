use Rattle.sim_serve.proofs.ImpLaws.{imp_able, imp_loaded}
use Rattle.sim_serve.proofs.loading.load.Goals as goal

pub returns-in-Ok-clause-loaded : goal.returns-in-Ok-clause-loaded
returns-in-Ok-clause-loaded g c = imp_loaded _ _ c.args.name.now _ c.enabled.result c.in-Ok.ensures.loaded c.enabled.ensures

pub returns-in-Ok-clause-able : goal.returns-in-Ok-clause-able
returns-in-Ok-clause-able g c = imp_able _ c.args.name.now _ c.enabled.result c.in-Ok.ensures.loaded c.in-Ok.ensures.over c.enabled.ensures
