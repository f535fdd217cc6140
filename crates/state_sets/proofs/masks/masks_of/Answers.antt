use Rattle.std.proofs.Common.{◌≡◌, ◌++◌, length, take, drop, arith, rules}
use Rattle.state_sets.proofs.RowLaws.{whole_row}
use Rattle.state_sets.proofs.MaskLaws.{masks_more, masks_all}
use Rattle.state_sets.proofs.masks.masks_of.Goals as goal

pub states-preserved : goal.states-preserved
states-preserved c =
    let full : c.states.row.len ≡ length c.states.row.items = search rules in
    let same : length c.mark_state.new.row ≡ length c.states.row.items = omega (arith, c.mark_state.ensures.long, c.states.invariant.long) in
    let whole : take c.states.row.len (c.mark_state.new.row ++ drop (length c.mark_state.new.row) c.states.row.items) ≡ c.mark_state.new.row = whole_row c.states.row.items c.mark_state.new.row c.states.row.len full same in
    record {
      long = rw whole c.mark_state.ensures.long;
      masks = masks_more c.args.lts.now _ _ _ _ c.push.ensures.width c.in_ok-push.ensures.rows (rw (c.deref.ensures.value, whole) c.mark_state.ensures) c.states.invariant.masks;
    }

pub returns : goal.returns
returns c = masks_all c.args.lts.now _ _ (omega (arith, c.states-test.false, c.states.auto.state-end, c.states-state-end.ensures.states)) c.states.invariant.masks
