use Rattle.std.proofs.Common.{◌≡◌}
use Rattle.lts_shape.proofs.GroupLaws.{IsChained}
use Rattle.lts_shape.proofs.groups.add_group.Given as goal

abbrev pub invariant-chain : goal.invariant-chain
invariant-chain l = record {
  states : l.search.states ≡ l.lts.states;
  chained : IsChained l.lts l.group l.fn.search.found l.search.found l.next;
}

abbrev pub decreases-chain : goal.decreases-chain
decreases-chain l = l.next
