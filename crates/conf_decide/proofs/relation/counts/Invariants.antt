use Rattle.std.proofs.Common.{◌≤◌}
use Rattle.conf_decide.specs.declared.table.Found.{Found}
use Rattle.conf_decide.proofs.EndLaws.{IsAboveTo}
use Rattle.conf_decide.proofs.relation.counts.Given as goal

abbrev pub invariant-pairs : goal.invariant-pairs
invariant-pairs l =
    record {
      left : IsAboveTo (λ (f : Found). f.left) l.table l.number l.left;
      right : IsAboveTo (λ (f : Found). f.right) l.table l.number l.right;
      left_small : l.left ≤ 4294967296;
      right_small : l.right ≤ 4294967296;
    }
