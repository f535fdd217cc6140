use Rattle.std.proofs.Common.{◌-◌, length}
use Rattle.lts_shape.specs.Marks.{AreMarks}
use Rattle.lts_shape.proofs.reached.marks_of.Given as goal

abbrev pub invariant-finds : goal.invariant-finds
invariant-finds l = AreMarks l.search.found l.at l.states l.marks.items

abbrev pub decreases-finds : goal.decreases-finds
decreases-finds l = length l.search.found - l.at
