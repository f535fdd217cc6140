use Rattle.session_core.proofs.BoundLaws.{run_bound}
use Rattle.session_core.proofs.laws.table_ends.Goals as goal

pub returns : goal.returns
returns c = λ r events s some steps run. run_bound r s events some steps run
