use Rattle.std.proofs.Common.{◌≡◌, ◌++◌, drop}
use Rattle.trace_text.specs.Lines.{items_text}
use Rattle.trace_text.proofs.printer.put_items.Given as goal

abbrev pub invariant-items : goal.invariant-items
invariant-items l = l.text.items ++ items_text l.front l.labels.texts (drop l.item-index l.items) ≡ l.fn.text.items ++ items_text l.front l.labels.texts l.items
