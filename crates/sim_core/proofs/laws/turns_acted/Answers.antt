use Rattle.sim_core.proofs.ServeLaws.{turns_act}
use Rattle.sim_core.proofs.laws.turns_acted.Goals as goal

pub returns : goal.returns
returns g c = λ p q turns are. turns_act g.K.Link.gives g.R.NextWord.step p q turns are.0 are.1
