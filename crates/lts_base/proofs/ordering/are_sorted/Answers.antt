use Rattle.std.proofs.Common.{◌≡◌, ◌+◌, Bool, get_or}
use Rattle.std.specs.Ordering.{partial_le}
use Rattle.lts_base.specs.contracts.action.MovePartialOrd.TheImpl.{partial_cmp-value}
use Rattle.lts_base.specs.declared.action.Move.{Move}
use Rattle.lts_base.proofs.SortedLaws.{AreSorted-tested, each_adjacent, partly_at_most}
use Rattle.lts_base.proofs.ordering.are_sorted.Goals as goal

pub returns : goal.returns
returns c sorted =
    let each = each_adjacent (λ (x y : Move) (b : Bool). partial_le partial_cmp-value.it x y ≡ b) c.args.moves.now _ sorted c.is_sorted.ensures.cases in
    AreSorted-tested c.args.moves.now (λ k d below. partly_at_most (get_or c.args.moves.now k d) (get_or c.args.moves.now (k + 1) d) (each k d below))
