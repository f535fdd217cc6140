use Rattle.std.proofs.Common.{◌≡◌, ◌++◌, drop}
use Rattle.std.specs.List.{flat_map}
use Rattle.log_report.specs.Replayed.{verdict_line}
use Rattle.log_report.proofs.verdicts.verdicts_text.Given as goal

abbrev pub invariant-verdicts : goal.invariant-verdicts
invariant-verdicts l = l.text.items ++ flat_map verdict_line (drop l.verdict-index l.verdicts) ≡ flat_map verdict_line l.verdicts
