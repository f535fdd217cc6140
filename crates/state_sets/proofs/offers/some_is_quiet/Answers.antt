use Rattle.std.proofs.lemmas.Bool.{false≢true, iff_false}
use Rattle.lts_base.specs.System.{IsQuiet}
use Rattle.lts_base.proofs.ListLaws.{below_next}
use Rattle.state_sets.proofs.OfferLaws.{none_of}
use Rattle.state_sets.proofs.offers.some_is_quiet.Goals as goal

pub states-preserved : goal.states-preserved
states-preserved c =
    below_next (λ q. IsQuiet c.args.lts.now q → ⊥) _ _ _ c.states-test.true c.states.invariant (iff_false c.is_quiet.ensures c.if-is_quiet.false)

pub returns : goal.returns
returns c = (
  λ t. absurd (false≢true t),
  λ some. absurd (none_of (IsQuiet c.args.lts.now) _ _ c.states-test.false c.states.invariant some),
)
