use Rattle.std.proofs.Common.{take}
use Rattle.std.specs.List.{AllZip}
use Rattle.trace_log.specs.Verdict.{IsSeenAs}
use Rattle.trace_log.proofs.known.each_seen.Given as goal

abbrev pub invariant-entries : goal.invariant-entries
invariant-entries l = AllZip (IsSeenAs l.labels) (take l.entry-index l.entry-items) l.seen
