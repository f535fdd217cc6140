use Rattle.std.proofs.Common.{◌≡◌, ◌++◌, drop, map}
use Rattle.log_text.specs.Printed.{with_ends, entry_line}
use Rattle.log_text.proofs.printer.put_entries.Given as goal

abbrev pub invariant-entries : goal.invariant-entries
invariant-entries l = l.text.items ++ with_ends (map entry_line (drop l.entry-index l.entries)) ≡ l.fn.text.items ++ with_ends (map entry_line l.entries)
