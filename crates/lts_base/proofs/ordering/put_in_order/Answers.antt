use Rattle.std.proofs.Common.{◌≡◌, ◌++◌, List, length, take, drop, rules, subst}
use Rattle.std.specs.List.Sorted.{IsPermutation}
use Rattle.std.proofs.lemmas.List.Sorted.{IsPermutation-trans}
use Rattle.lts_base.specs.declared.action.Move.{Move}
use Rattle.lts_base.specs.System.{AreSorted}
use Rattle.lts_base.proofs.SortedLaws.{AreSorted-from_sort, lent_back}
use Rattle.lts_base.proofs.ordering.put_in_order.Goals as goal

pub returns-then-not-are_sorted-clause-permutation : goal.returns-then-not-are_sorted-clause-permutation
returns-then-not-are_sorted-clause-permutation c =
    let full : c.args.moves.now.len ≡ length c.args.moves.now.items = search rules in
    let same : IsPermutation c.args.moves.now.items c.sort_states.new.moves = rw (← c.deref_mut.ensures.value) c.sort_states.ensures in
    let whole : take c.args.moves.now.len (c.sort_states.new.moves ++ drop (length c.sort_states.new.moves) c.args.moves.now.items) ≡ c.sort_states.new.moves = lent_back c.args.moves.now.items c.sort_states.new.moves c.args.moves.now.len full same in
    IsPermutation-trans c.args.moves.now.items c.sort_states.new.moves c.sort_unstable.new.self.items same (rw whole at c.sort_unstable.ensures.permutation)

pub returns-then-not-are_sorted-clause-sorted : goal.returns-then-not-are_sorted-clause-sorted
returns-then-not-are_sorted-clause-sorted c = AreSorted-from_sort _ c.sort_unstable.ensures.sorted

pub returns-then-are_sorted-clause-sorted : goal.returns-then-are_sorted-clause-sorted
returns-then-are_sorted-clause-sorted c = subst (λ (ms : List Move). AreSorted ms) c.deref.ensures.value (c.are_sorted.ensures c.if-are_sorted.true)

pub returns-else-not-are_sorted-clause-sorted : goal.returns-else-not-are_sorted-clause-sorted
returns-else-not-are_sorted-clause-sorted c =
    subst (λ (ms : List Move). AreSorted ms) c.deref-2.ensures.value (c.are_sorted-2.ensures c.if-not-are_sorted.false)

pub returns-else-not-are_sorted-clause-permutation : goal.returns-else-not-are_sorted-clause-permutation
returns-else-not-are_sorted-clause-permutation c =
    let full : c.args.moves.now.len ≡ length c.args.moves.now.items = search rules in
    let same : IsPermutation c.args.moves.now.items c.sort_states.new.moves = rw (← c.deref_mut.ensures.value) c.sort_states.ensures in
    let whole : take c.args.moves.now.len (c.sort_states.new.moves ++ drop (length c.sort_states.new.moves) c.args.moves.now.items) ≡ c.sort_states.new.moves = lent_back c.args.moves.now.items c.sort_states.new.moves c.args.moves.now.len full same in
    rw whole same
