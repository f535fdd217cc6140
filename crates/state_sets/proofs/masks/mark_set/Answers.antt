use Rattle.std.proofs.Common.{[], ◌∷◌, get_or}
use Rattle.state_sets.specs.Rows.{IsRowOf}
use Rattle.state_sets.proofs.MaskLaws.{first_join, first_all}
use Rattle.state_sets.proofs.masks.mark_set.Goals as goal

pub states-preserved : goal.states-preserved
states-preserved c =
    let row : IsRowOf c.args.lts.now (get_or c.args.set.now c.states.state-index 0 ∷ []) c.row.result.now = rw c.row.ensures (c.requires.masks.each _ (c.requires.set c.states.state-index 0 c.states-test.true)) in
    first_join c.args.lts.now _ _ _ _ _ _ c.states-test.true c.join_bits.ensures.long c.join_bits.ensures.bits row c.states.invariant

pub returns : goal.returns
returns c = first_all _ _ _ _ c.states-test.false c.states.invariant
