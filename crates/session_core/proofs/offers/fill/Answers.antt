use Rattle.std.proofs.Common.{◌≡◌, ◌∙◌, ◌++◌, ◌∷◌, [], arith}
use Rattle.std.proofs.lemmas.List.{length_push}
use Rattle.std.proofs.lemmas.Bool.{iff_false}
use Rattle.lts_base.specs.declared.item.Item.TheVariants.{Input}
use Rattle.lts_base.specs.Conformance.{IsAllowed}
use Rattle.session_core.proofs.OfferLaws.{below_more, below_same}
use Rattle.session_core.proofs.offers.fill.Goals.{then-is_allowed, else-is_allowed}
use Rattle.session_core.proofs.offers.fill.Goals as goal

pub inputs-preserved : goal.inputs-preserved
inputs-preserved g c =
    let i = c.inputs.invariant in
    elim c.if-is_allowed.branch [
      | then-is_allowed w ↦ rw w.offers-is (record {
        offers = λ σ at. rw w.push_reserved.ensures.items (below_more (λ a. IsAllowed c.args.mode (g.W.Walk.walked c.args.walk.now).system (σ ++ Input a ∷ [])) c.inputs.input c.inputs.offers.items (i.offers σ at) ((c.is_allowed.ensures σ at).0 w.if-is_allowed.true));
        few = let long = length_push c.inputs.offers.items c.inputs.input in rw (w.push_reserved.ensures.items, long) (omega (arith, i.few));
        capacity = w.push_reserved.ensures.capacity ∙ i.capacity;
      })
      | else-is_allowed w ↦ rw w.offers-is (record {
        offers = λ σ at. below_same (λ a. IsAllowed c.args.mode (g.W.Walk.walked c.args.walk.now).system (σ ++ Input a ∷ [])) c.inputs.input c.inputs.offers.items (i.offers σ at) (iff_false (c.is_allowed.ensures σ at) w.if-is_allowed.false);
        few = omega (arith, i.few);
        capacity = i.capacity;
      })
    ]

pub returns-clause-offers : goal.returns-clause-offers
returns-clause-offers g c = λ σ at.
    let e : c.inputs.input ≡ c.args.inputs = omega (arith, c.inputs.auto.input-end, c.inputs-test.false) in
    rw e at (c.inputs.invariant.offers σ at)
