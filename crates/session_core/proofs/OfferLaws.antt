-- The inputs that are offered, gathered one by one.
use Rattle.std.proofs.Common.{◌≡◌, ℕ, ◌+◌, ◌<◌, ◌≤◌, List, [], ◌∷◌, ◌++◌, length, All, Contains, get_or, ◌⊎◌, inl, inr, refl, sym, arith}
use Rattle.std.specs.List.Sorted.{IsStrictlyIncreasing}
use Rattle.std.proofs.lemmas.List.{length_push}
use Rattle.std.proofs.lemmas.List.Elements.{Contains-get_or, Contains-push, Contains-push_cases, Contains-append_left}
use Rattle.std.proofs.lemmas.Bool.{cases_lt}
use Rattle.lts_base.specs.declared.item.Item.{Item}
use Rattle.lts_base.specs.declared.item.Item.TheVariants.{Input}
use Rattle.lts_base.specs.Conformance.{IsAllowed}
use Rattle.lts_base.proofs.ListLaws.{IsStrictlyIncreasing-push, Contains-none}
use Rattle.lts_base.proofs.SetLaws.{Has-item}
use Rattle.lts_base.proofs.AllowedLaws.{IsAllowed-has}
use Rattle.walk_core.specs.Walked.{Walked}
use Rattle.session_core.specs.Table.{Rules, Offered}
use Rattle.session_core.specs.Offers.{AreBelow, AreOffers}
use Rattle.session_core.specs.Placed.{IsAt}
use Rattle.session_core.specs.Sound.{AreRules}

-- below 0 there are none
pub below_none : (P : ℕ → Type 0) → AreBelow P 0 []
below_none P = record {
  rising = λ j h. absurd (omega (arith, h));
  each = λ a in_it. absurd (Contains-none a in_it);
  all = λ a low h. absurd (omega (arith, low));
}

-- at most is the same or below
at_most : (a n : ℕ) → a < n + 1 → (a ≡ n) ⊎ (a < n)
at_most a n low = elim (cases_lt a n) [ inl less ↦ inr less | inr over ↦ inl (omega (arith, low, over)) ]

-- the next number is one of them
pub below_more : (P : ℕ → Type 0) (n : ℕ) (xs : List ℕ) → AreBelow P n xs → P n → AreBelow P (n + 1) (xs ++ n ∷ [])
below_more P n xs so_far is = record {
  rising = IsStrictlyIncreasing-push xs n so_far.rising (λ j d lt. (so_far.each (get_or xs j d) (Contains-get_or xs j d lt)).0);
  each = λ a h. elim (Contains-push_cases xs n a h) [
    | inl before ↦ let e = so_far.each a before in (omega (arith, e.0), e.1)
    | inr same ↦ rw (← same) (omega arith, is)
  ];
  all = λ a low h. elim (at_most a n low) [
    | inl same ↦ rw same (Contains-push xs n)
    | inr less ↦ Contains-append_left xs (n ∷ []) a (so_far.all a less h)
  ];
}

-- the next number is none of them
pub below_same : (P : ℕ → Type 0) (n : ℕ) (xs : List ℕ) → AreBelow P n xs → (¬ P n) → AreBelow P (n + 1) xs
below_same P n xs so_far other = record {
  rising = so_far.rising;
  each = λ a h. let e = so_far.each a h in (omega (arith, e.0), e.1);
  all = λ a low h. elim (at_most a n low) [
    | inl same ↦ absurd (other (rw same at h))
    | inr less ↦ so_far.all a less h
  ];
}

-- the allowed inputs below the number of inputs are all that are offered
pub offers_of : (w : Walked) (r : Rules) (inputs k : ℕ) (σ : List Item) (offers : List ℕ) → r.system ≡ w.system → w.system.inputs ≡ inputs → IsAt w r.mode k σ →
    AreBelow (λ a. IsAllowed r.mode w.system (σ ++ Input a ∷ [])) inputs offers → AreOffers r σ offers
unfolding Offered
offers_of w r inputs k σ offers same ins at below = record {
  rising = below.rising;
  each = λ a h. rw same ((below.each a h).1);
  all = λ a offered.
      let allowed : IsAllowed r.mode w.system (σ ++ Input a ∷ []) = rw same at offered in
      let inside : a < w.system.inputs = Has-item w.system σ (Input a) at.walk.system (IsAllowed-has r.mode w.system (σ ++ Input a ∷ []) allowed) in
      below.all a (rw ins at inside) allowed;
}
