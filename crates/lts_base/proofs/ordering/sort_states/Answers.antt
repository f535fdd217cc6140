use Rattle.std.proofs.lemmas.List.Sorted.{IsPermutation-trans, IsPermutation-put_mid, length_permutation}
use Rattle.lts_base.proofs.ordering.sort_states.Goals as goal

pub loop-from-preserved : goal.loop-from-preserved
loop-from-preserved c =
    let step = IsPermutation-put_mid _ _ _ _ c.sort_unstable.ensures.permutation in
    let whole = IsPermutation-trans _ _ _ c.loop-from.invariant.0 step in
    (whole, length_permutation _ _ whole)
