use Rattle.trace_log.proofs.VerdictLaws.{verdict_once}
use Rattle.trace_log.proofs.judge.judge_log.Goals as goal

pub returns-clause-only : goal.returns-clause-only
returns-clause-only c = λ w is. verdict_once _ _ _ _ w c.in_ok-verdict.ensures is
