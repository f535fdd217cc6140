use Rattle.sim_session.proofs.AlongLaws.{conforming_sound}
use Rattle.sim_session.proofs.laws.conforming_never_fails.Goals as goal

pub returns : goal.returns
returns c = λ r i s k rehearsed conforming. conforming_sound r i s k rehearsed conforming
