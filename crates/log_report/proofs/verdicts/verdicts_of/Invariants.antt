use Rattle.std.proofs.Common.{take}
use Rattle.std.specs.List.{AllZip}
use Rattle.log_report.specs.Replayed.{IsLogVerdict}
use Rattle.log_report.proofs.verdicts.verdicts_of.Given as goal

abbrev pub invariant-logs : goal.invariant-logs
invariant-logs l = AllZip (IsLogVerdict l.labels l.system) (take l.named-index l.logs) l.verdicts.items
