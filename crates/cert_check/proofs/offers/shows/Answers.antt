use Rattle.std.proofs.lemmas.Bool.{false≢true, iff_false}
use Rattle.lts_base.specs.After.{Gives}
use Rattle.lts_base.proofs.ListLaws.{below_next}
use Rattle.cert_check.proofs.OfferLaws.{none_of}
use Rattle.cert_check.proofs.offers.shows.Goals as goal

pub states-preserved : goal.states-preserved
states-preserved c =
    below_next (λ q. Gives c.args.side.now q c.args.item → ⊥) _ _ _ c.states-test.true c.states.invariant (iff_false c.gives.ensures c.if-gives.false)

pub returns : goal.returns
returns c = (
  λ t. absurd (false≢true t),
  λ some. absurd (none_of (λ q. Gives c.args.side.now q c.args.item) _ _ c.states-test.false c.states.invariant some),
)
