use Rattle.std.proofs.Common.{◌≡◌, length}
use Rattle.lts_base.specs.Finds.{IsMarked}
use Rattle.cert_check.proofs.marks.Marks.clear.Given as goal

abbrev pub invariant-finds : goal.invariant-finds
invariant-finds l = (length l.self-inside.marked.items ≡ l.fn.self.states) × IsMarked l.self-inside.marked.items l.self-inside.found.items

abbrev pub decreases-finds : goal.decreases-finds
decreases-finds l = length l.self-inside.found.items
