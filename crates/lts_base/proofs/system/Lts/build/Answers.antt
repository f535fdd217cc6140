use Rattle.std.proofs.Common.{◌≡◌, ℕ, true, arith, refl, nat_lt, subst, All, ◌+◌, ◌-◌}
use Rattle.std.proofs.lemmas.Bool.Decides.{Decides-ltb}
use Rattle.std.proofs.lemmas.List.Sorted.{length_permutation}
use Rattle.std.proofs.lemmas.Result.{err_from_is_err_and}
use Rattle.lts_base.specs.contracts.action.MoveOrd.TheImpl.Laws.{total-law}
use Rattle.lts_base.specs.System.{IsMoveOf}
use Rattle.lts_base.proofs.MoveLaws.{by_state_from_sorted, AllMoves-permuted}
use Rattle.lts_base.proofs.SortedLaws.{AreSorted-as_sort}
use Rattle.lts_base.proofs.system.Lts.build.Goals as goal

pub returns-in_err-test_start-clause-err : goal.returns-in_err-test_start-clause-err
returns-in_err-test_start-clause-err c =
    let p = err_from_is_err_and c.from_residual.result c.from_residual.ensures.1 in
    rw (p.1, p.2) (c.in_err-test_start.ensures _ _)

pub offsets_of-requires-clause-few : goal.offsets_of-requires-clause-few
offsets_of-requires-clause-few c =
    let size = length_permutation _ _ c.put_in_order.ensures.permutation in
    rw (c.deref.ensures.value, size, c.into_vec-moves.ensures) c.requires

pub offsets_of-requires-clause-sorted : goal.offsets_of-requires-clause-sorted
offsets_of-requires-clause-sorted c =
    rw c.deref.ensures.value (by_state_from_sorted _ total-law (λ x y lt. let e : nat_lt x.from y.from ≡ true = (Decides-ltb x.from y.from).1 lt in rw e refl) _ (AreSorted-as_sort _ c.put_in_order.ensures.sorted))

pub invariant_of-result : goal.invariant_of-result
invariant_of-result c =
    let few = c.count-count.ensures.alphabet.few in
    let inputs = c.count-count.ensures.alphabet.inputs in
    let inputs_is = c.inputs-inputs.ensures.inputs in
    let count_is = c.count-count.ensures.count in
    let whole : c.count-count.result ≡ c.inputs-inputs.result + (c.count-count.result - c.inputs-inputs.result) = omega arith in
    let given : All (IsMoveOf c.args.states c.count-count.result) c.args.moves = rw c.as_slice.ensures at c.in_ok-test_moves.ensures in
    let owned : All (IsMoveOf c.args.states c.count-count.result) c.into_vec-moves.result.items = rw c.into_vec-moves.ensures given in
    let sorted = AllMoves-permuted c.args.states c.count-count.result _ _ c.put_in_order.ensures.permutation owned in
    record {
      system = record {
        start = c.in_ok-test_start.ensures;
        states = c.ranges.states.fits;
        few = omega arith;
        moves = subst (λ (n : ℕ). All (IsMoveOf c.args.states n) c.put_in_order.new.moves.items) whole sorted;
        sorted = c.put_in_order.ensures.sorted;
      };
      by_state = by_state_from_sorted _ total-law (λ x y lt. let e : nat_lt x.from y.from ≡ true = (Decides-ltb x.from y.from).1 lt in rw e refl) _ (AreSorted-as_sort _ c.put_in_order.ensures.sorted);
      offsets = rw (← c.deref.ensures.value) c.in_ok-offsets.ensures;
      flags = c.new.ensures.items;
    }

pub returns-clause-system : goal.returns-clause-system
returns-clause-system c = (invariant_of-result c).system
