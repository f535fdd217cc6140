use Rattle.std.proofs.Common.{◌≡◌, ◌++◌, drop}
use Rattle.std.specs.List.{flat_map}
use Rattle.aut_text.specs.Printed.{line_text, printed}
use Rattle.aut_text.proofs.printer.print.Given as goal

abbrev pub invariant-loop-entry : goal.invariant-loop-entry
invariant-loop-entry l = l.text.items ++ flat_map (line_text l.labels.texts) (drop l.entry-index l.lts.moves) ≡ printed l.labels l.lts
