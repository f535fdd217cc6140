use Rattle.log_report.proofs.verdicts.verdict_of.Goals as goal

pub judge_log-requires-clause-items : goal.judge_log-requires-clause-items
judge_log-requires-clause-items c = rw c.as_slice.ensures (c.in_ok-seen.ensures.items c.args.system.now c.requires.over)
