use Rattle.std.proofs.Common.{◌≡◌}
use Rattle.log_report.specs.Migrated.{IsMigratable}
use Rattle.log_report.proofs.ReplayLaws.{HoldsTo}
use Rattle.log_report.proofs.migrated.first_not_of.Given as goal

abbrev pub invariant-logs : goal.invariant-logs
invariant-logs l = record {
  number : l.number ≡ l.named-index;
  good : HoldsTo (IsMigratable l.labels l.system) l.logs l.named-index;
}
