use Rattle.trace_log.specs.Verdict.{IsSeenAs}
use Rattle.trace_log.proofs.VerdictLaws.{zip_more}
use Rattle.trace_log.proofs.known.each_seen.Goals as goal

pub entries-preserved : goal.entries-preserved
entries-preserved c = rw (c.in_ok-push.ensures.ok) (zip_more (IsSeenAs c.args.labels.now) _ _ _ _ _ c.entries-test.true c.entry-item.is c.entries.invariant c.seen_as.ensures)
