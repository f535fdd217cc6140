use Rattle.trace_log.specs.Verdict.{IsSeenAs}
use Rattle.trace_log.proofs.VerdictLaws.{all_seen_once, seen_items, zip_long}
use Rattle.trace_log.proofs.known.resolve.Goals as goal

pub returns-clause-only : goal.returns-clause-only
returns-clause-only c = λ w is. all_seen_once _ _ _ w c.inputs.ensures.alphabet c.in_ok-seen.ensures is

pub returns-clause-items : goal.returns-clause-items
returns-clause-items c s over = seen_items _ s _ _ c.inputs.ensures.alphabet over c.in_ok-seen.ensures

pub returns-clause-long : goal.returns-clause-long
returns-clause-long c = zip_long (IsSeenAs c.args.labels.now) _ _ c.in_ok-seen.ensures
