use Rattle.std.proofs.Common.{refl}
use Rattle.lts_base.specs.System.{IsStable, Takes}
use Rattle.lts_base.proofs.ListLaws.{below_next, none_contained}
use Rattle.cert_check.proofs.offers.all_stable_take.Goals as goal

pub states-preserved : goal.states-preserved
states-preserved c =
    below_next (λ q. IsStable c.args.lts.now q → Takes c.args.lts.now q c.args.label) _ _ _ c.states-test.true c.states.invariant
    (c.takes_if_stable.ensures.0 c.if-not-takes_if_stable.false)

pub returns : goal.returns
returns c = (
  λ t. none_contained (λ q. IsStable c.args.lts.now q → Takes c.args.lts.now q c.args.label) _ _ c.states-test.false c.states.invariant,
  λ all. refl,
)
