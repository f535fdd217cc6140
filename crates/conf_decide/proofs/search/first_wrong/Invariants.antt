use Rattle.std.proofs.Common.{◌+◌, ◌-◌, ◌≤◌}
use Rattle.lts_base.specs.Related.{row_of}
use Rattle.conf_decide.proofs.WrongLaws.{IsFineBelow}
use Rattle.conf_decide.proofs.search.first_wrong.Given as goal

abbrev pub invariant-items : goal.invariant-items
invariant-items g l =
    (l.number ≤ l.setting.inputs + l.setting.outputs + 1) × IsFineBelow (g.A.Walk.walked l.imp).system (g.B.Walk.walked l.spec).system (row_of (g.A.Walk.walked l.imp).sets (g.B.Walk.walked l.spec).sets (l.left, l.right)) l.number

abbrev pub decreases-items : goal.decreases-items
decreases-items g l = (l.setting.inputs + l.setting.outputs + 1) - l.number
