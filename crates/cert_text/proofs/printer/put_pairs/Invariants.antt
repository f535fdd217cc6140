use Rattle.std.proofs.Common.{◌≡◌, ◌++◌, drop, map}
use Rattle.cert_text.specs.Printed.{with_ends, pair_line}
use Rattle.cert_text.proofs.printer.put_pairs.Given as goal

abbrev pub invariant-pairs : goal.invariant-pairs
invariant-pairs l = l.text.items ++ with_ends (map pair_line (drop l.pair-index l.pairs)) ≡ l.fn.text.items ++ with_ends (map pair_line l.pairs)
