use Rattle.trace_log.proofs.VerdictLaws.{zip_more}
use Rattle.log_report.specs.Replayed.{IsLogVerdict}
use Rattle.log_report.proofs.verdicts.verdicts_of.Goals as goal

pub logs-preserved : goal.logs-preserved
logs-preserved c = rw (c.in_ok-push.ensures.items) (zip_more (IsLogVerdict c.args.labels.now c.args.system.now) _ _ _ _ _ c.logs-test.true c.named-item.is c.logs.invariant c.in_ok-verdict.ensures)
