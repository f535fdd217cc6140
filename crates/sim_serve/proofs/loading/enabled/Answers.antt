use Rattle.sim_serve.proofs.ImpLaws.{lacking_told}
use Rattle.sim_serve.proofs.loading.enabled.Goals as goal

pub returns-in-Some : goal.returns-in-Some
returns-in-Some c = lacking_told c.args.name.now c.args.imp c.in-Ok.found c.in-Some.state c.in-Some.label c.lacking.result c.in-Some.is c.in-Ok.ensures.found c.lacking.ensures
