use Rattle.std.proofs.Common.{◌≡◌, ℕ, ◌≤◌, List, [], ◌∷◌, ◌++◌, length, vec_capacity}
use Rattle.lts_base.specs.declared.item.Item.{Item}
use Rattle.lts_base.specs.declared.item.Item.TheVariants.{Input}
use Rattle.lts_base.specs.Conformance.{IsAllowed}
use Rattle.session_core.specs.Offers.{AreBelow}
use Rattle.session_core.specs.Placed.{IsAt}
use Rattle.session_core.proofs.offers.fill.Given as goal

abbrev pub invariant-inputs : goal.invariant-inputs
invariant-inputs g l =
    record {
      offers : (σ : List Item) → IsAt (g.W.Walk.walked l.fn.walk) l.fn.mode l.fn.node.0 σ → AreBelow (λ a. IsAllowed l.fn.mode (g.W.Walk.walked l.fn.walk).system (σ ++ Input a ∷ [])) l.input l.offers.items;
      few : length l.offers.items ≤ l.input;
      capacity : vec_capacity l.offers ≡ vec_capacity l.fn.offers;
    }
