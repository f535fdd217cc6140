use Rattle.std.proofs.Common.{◌≡◌, ◌++◌, drop, map}
use Rattle.std.specs.List.{flat_map}
use Rattle.log_text.specs.Printed.{printed}
use Rattle.log_report.specs.Migrated.{in_two}
use Rattle.log_report.proofs.migrated.text_in_two.Given as goal

abbrev pub invariant-logs : goal.invariant-logs
invariant-logs l = l.text.items ++ flat_map printed (map (in_two l.spec l.fn.divergence) (drop l.named-index l.logs)) ≡ flat_map printed (map (in_two l.spec l.fn.divergence) l.logs)
