use Rattle.session_core.proofs.JudgeLaws.{reading_judged}
use Rattle.session_core.proofs.laws.logs_judged.Goals as goal

pub returns : goal.returns
returns c = λ r events s e labelled reading. reading_judged r events s e labelled reading
