use Rattle.conf_decide.proofs.GrowLaws.{took_left}
use Rattle.conf_decide.proofs.search.step_both.Goals as goal

pub returns-in-Ok-None-clause-taken : goal.returns-in-Ok-None-clause-taken
returns-in-Ok-None-clause-taken g c = took_left _ _ _ c.step.ensures.taken

pub returns-in-Err-Full-clause-taken : goal.returns-in-Err-Full-clause-taken
returns-in-Err-Full-clause-taken g c = took_left _ _ _ c.step.ensures.taken

pub returns-in-Err-Memory-clause-taken : goal.returns-in-Err-Memory-clause-taken
returns-in-Err-Memory-clause-taken g c = took_left _ _ _ c.step.ensures.taken
