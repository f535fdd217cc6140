use Rattle.session_core.proofs.TurnLaws.{run_reads}
use Rattle.session_core.proofs.laws.table_reads.Goals as goal

pub returns : goal.returns
returns c = λ r events s some run. run_reads r events s some run
