use Rattle.std.proofs.Common.{◌∙◌}
use Rattle.lts_shape.proofs.CycleLaws.{IsTurning-none, IsTurning-some, IsTurning-more}
use Rattle.lts_shape.proofs.cycle.turned.Goals as goal

pub finds-init : goal.finds-init
finds-init c = rw (c.len-at.ensures.value, c.new-cycle.ensures) (IsTurning-none _ _ c.requires)

pub finds-preserved : goal.finds-preserved
finds-preserved c =
    rw (c.in_ok-push.ensures.ok, c.at-found.ensures.value)
    (IsTurning-more _ _ _ _ (IsTurning-some _ _ _ _ c.finds.invariant) (λ same. c.if-found-state.false (c.at-found.ensures.value ∙ same)) c.finds.invariant)
