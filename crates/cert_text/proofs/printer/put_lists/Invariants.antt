use Rattle.std.proofs.Common.{◌≡◌, ◌++◌, drop, map}
use Rattle.cert_text.specs.Printed.{with_ends, number_line}
use Rattle.cert_text.proofs.printer.put_lists.Given as goal

abbrev pub invariant-lists : goal.invariant-lists
invariant-lists l = l.text.items ++ with_ends (map (number_line l.word) (drop l.place l.lists)) ≡ l.fn.text.items ++ with_ends (map (number_line l.word) l.lists)
