use Rattle.sim_core.proofs.SeenLaws.{acts_lead}
use Rattle.sim_core.proofs.laws.acts_traced.Goals as goal

pub returns : goal.returns
returns g c = λ x y acts σ are seen. acts_lead g.R.NextWord.step x y acts σ are.0 are.1 seen
