use Rattle.std.proofs.Common.{◌≡◌, ◌++◌, drop, map, decimal}
use Rattle.cert_text.specs.Printed.{spaced, number_line}
use Rattle.cert_text.proofs.printer.put_list.Given as goal

abbrev pub invariant-states : goal.invariant-states
invariant-states l = l.text.items ++ spaced (map decimal (drop l.state-index l.states)) ≡ l.fn.text.items ++ number_line l.word l.states
