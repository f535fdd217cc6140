use Rattle.sim_core.proofs.SeenLaws.{acts_are_seen}
use Rattle.sim_core.proofs.laws.acts_seen.Goals as goal

pub returns : goal.returns
returns g c = λ x y acts are. acts_are_seen g.R.NextWord.step x y acts are.0 are.1
