use Rattle.session_core.proofs.BackLaws.{reads_run}
use Rattle.session_core.proofs.laws.readings_run.Goals as goal

pub returns : goal.returns
returns c = λ r events s some reading. let (t, run, same) = reads_run r events s some reading in record { state = t; run = run; phase = same.phase; items = same.items; strange = same.strange; left = same.left }
