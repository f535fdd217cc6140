use Rattle.std.proofs.Common.{◌≡◌, ℕ, arith, subst}
use Rattle.lts_base.proofs.MoveLaws.{AreFirstOffsets, first_offsets-push, offsets_from_first}
use Rattle.lts_base.proofs.system.offsets_of.Goals as goal

pub loop-state-preserved : goal.loop-state-preserved
loop-state-preserved c = rw c.in_ok-push.ensures.items (first_offsets-push _ _ _ _ c.loop-state.invariant c.first_move.ensures.within c.first_move.ensures.point)

pub returns : goal.returns
returns c =
    let end : c.loop-state.state ≡ c.args.states = omega arith in
    let all : AreFirstOffsets c.args.states c.args.moves.now c.loop-state.offsets.items =
    subst (λ (n : ℕ). AreFirstOffsets n c.args.moves.now c.loop-state.offsets.items) end c.loop-state.invariant in
    rw c.in_ok-push-2.ensures.items (offsets_from_first _ _ _ (first_offsets-push _ _ _ _ all c.first_move-2.ensures.within c.first_move-2.ensures.point))
