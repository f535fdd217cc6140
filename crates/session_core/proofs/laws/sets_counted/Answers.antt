use Rattle.session_core.proofs.AskLaws.{sets_all}
use Rattle.session_core.proofs.laws.sets_counted.Goals as goal

pub returns : goal.returns
returns c = λ p events q takes. sets_all p q events takes
