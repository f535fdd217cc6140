use Rattle.session_core.proofs.AskLaws.{members_all}
use Rattle.session_core.proofs.laws.members_counted.Goals as goal

pub returns : goal.returns
returns c = λ p events q fresh takes. members_all p events q fresh takes
