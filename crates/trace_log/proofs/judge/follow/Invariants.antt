use Rattle.std.proofs.Common.{◌≡◌}
use Rattle.trace_log.proofs.VerdictLaws.{IsJudged}
use Rattle.trace_log.proofs.judge.follow.Given as goal

abbrev pub invariant-entries : goal.invariant-entries
invariant-entries l = record {
  states : l.search.states ≡ l.spec.states;
  place : l.place ≡ l.entry-index;
  judged : IsJudged l.mode l.spec l.seen l.entry-index l.set;
}
