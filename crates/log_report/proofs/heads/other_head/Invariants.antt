use Rattle.std.proofs.Common.{◌≡◌}
use Rattle.log_report.specs.Heads.{IsSameHead}
use Rattle.log_report.proofs.ReplayLaws.{HoldsTo}
use Rattle.log_report.proofs.heads.other_head.Given as goal

abbrev pub invariant-logs : goal.invariant-logs
invariant-logs l = record {
  number : l.number ≡ l.named-index;
  same : HoldsTo (λ n. IsSameHead l.spec l.divergence n.head) l.logs l.named-index;
}
