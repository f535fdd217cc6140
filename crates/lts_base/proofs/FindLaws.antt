-- Laws on what steps from states lead to, and on how far the finding of it is.
use Rattle.std.proofs.Common.{◌≡◌, ℕ, ◌+◌, ◌<◌, ◌≤◌, List, [], ◌∷◌, ◌++◌, length, get_or, inl, inr, All, Contains, refl, sym, ap, ◌∙◌, arith}
use Rattle.std.proofs.lemmas.List.{append-nil, append_assoc, get_or_append_left, length-append, get_or_default}
use Rattle.std.proofs.lemmas.List.Elements.{All-contains, All-push, All-append, All-nil, All-weaker, Contains-push, Contains-append_left, Contains-get_or}
use Rattle.std.proofs.lemmas.Bool.{cases_lt}
use Rattle.lts_base.specs.declared.action.Act.TheVariants.{Tau}
use Rattle.lts_base.specs.declared.item.Item.{Item}
use Rattle.lts_base.specs.System.{System, HasMove, IsQuiet}
use Rattle.lts_base.specs.Path.{Leads, Ends, IsSeen}
use Rattle.lts_base.specs.After.{IsSetAfter}
use Rattle.lts_base.specs.Next.{IsNext, Reaches}
use Rattle.lts_base.proofs.Leads.{Leads-here, Leads-append, Leads-tau, Leads-closed}
use Rattle.lts_base.proofs.ListLaws.{Contains-none, none_contained}
use Rattle.lts_base.specs.Finds.{IsAdded, Adds, IsReached, AreReached, AreNext, IsSorted}

-- one state was added
pub Contains-added : (old : List ℕ) (q : ℕ) (new : List ℕ) → IsAdded old q new → Contains new q
Contains-added old q new (inl (same, inside)) = rw same inside
Contains-added old q new (inr grown) = rw grown (Contains-push old q)

-- added with one state that has P
pub Adds-kept : (P : ℕ → Type 0) (old now new : List ℕ) (q : ℕ) → P q → IsAdded now q new → (more : List ℕ) × (now ≡ old ++ more) × All P more → (more : List ℕ) × (new ≡ old ++ more) × All P more
Adds-kept P old now new q has (inl (same, inside)) (more, is, all) = (more, same ∙ is, all)
Adds-kept P old now new q has (inr grown) (more, is, all) =
    (more ++ q ∷ [], grown ∙ ap {A = List ℕ} {B = List ℕ} (λ z. z ++ q ∷ []) is ∙ append_assoc old more (q ∷ []), All-push P more q all has)

-- what was found stays found
pub Contains-more : (now : List ℕ) (q : ℕ) (new : List ℕ) → IsAdded now q new → (r : ℕ) → Contains now r → Contains new r
Contains-more now q new (inl (same, inside)) r has = rw same has
Contains-more now q new (inr grown) r has = rw grown (Contains-append_left now (q ∷ []) r has)

-- of the members of ps the first i have been looked at, and what R leads to from them was found
pub record IsReaching (R : ℕ → ℕ → Type 0) (ps found : List ℕ) (i : ℕ) : Type 0 where
  pub each : All (IsReached R ps) found
  pub looked : (k d r : ℕ) → k < i → R (get_or ps k d) r → Contains found r

-- what R leads to from the next member was added
pub IsReaching-more : (R : ℕ → ℕ → Type 0) (ps old new : List ℕ) (i e : ℕ) → i < length ps → Adds (R (get_or ps i e)) old new → IsReaching R ps old i → IsReaching R ps new (i + 1)
IsReaching-more R ps old new i e inside adds is =
    let (more, grown, all) = adds.kept in
    record {
      each = rw grown (All-append (IsReached R ps) old more is.each
          (All-weaker (R (get_or ps i e)) (IsReached R ps) (λ r leads. (get_or ps i e, Contains-get_or ps i e inside, leads)) more all));
      looked = λ k d r below leads. elim (cases_lt k i) [
        | inl earlier ↦ rw grown (Contains-append_left old more r (is.looked k d r earlier leads))
        | inr late ↦
            let same : k ≡ i = omega (arith, late, below) in
            adds.all r (rw (get_or_default ps i e d inside) (rw same at leads))
      ];
    }

-- all members have been looked at
pub IsReaching-all : (R : ℕ → ℕ → Type 0) (ps found : List ℕ) (n : ℕ) → length ps ≤ n → IsReaching R ps found n → AreReached R ps found
IsReaching-all R ps found n over is = record {
  each = is.each;
  all = λ p r inside leads. none_contained (λ p. R p r → Contains found r) ps n over (λ k d below. is.looked k d r below) p inside leads;
}

-- the quiet state was added, or the state isn't quiet
pub Adds-quiet : (s : System) (p : ℕ) (old new : List ℕ) → IsQuiet s p → IsAdded old p new → Adds (λ r. IsQuiet s p × (p ≡ r)) old new
Adds-quiet s p old new quiet added = record {
  kept = Adds-kept (λ r. IsQuiet s p × (p ≡ r)) old old new p (quiet, refl) added ([], sym (append-nil old), All-nil (λ r. IsQuiet s p × (p ≡ r)));
  all = λ r rests. rw (← rests.1) (Contains-added old p new added);
}

-- from the first i finds the moves with Tau have been followed
pub record IsClosing (s : System) (seeds found : List ℕ) (i : ℕ) : Type 0 where
  pub kept : (more : List ℕ) × (found ≡ seeds ++ more)
  pub each : All (IsReached (λ r q. Leads s r [] q) seeds) found
  pub closed : (k d r : ℕ) → k < i → HasMove s (get_or found k d) Tau r → Contains found r
  pub within : i ≤ length found

-- from none of the finds the moves with Tau have been followed
pub IsClosing-none : (s : System) (seeds : List ℕ) → IsClosing s seeds seeds 0
IsClosing-none s seeds = record {
  kept = ([], sym (append-nil seeds));
  each = λ k d below. (get_or seeds k d, Contains-get_or seeds k d below, Leads-here s (get_or seeds k d));
  closed = λ k d r below. absurd (omega (arith, below));
  within = omega arith;
}

-- the moves with Tau from the next find have been followed
pub IsClosing-more : (s : System) (seeds old new : List ℕ) (i p : ℕ) → i < length old → p ≡ get_or old i 0 → Adds (HasMove s p Tau) old new → IsClosing s seeds old i → IsClosing s seeds new (i + 1)
IsClosing-more s seeds old new i p inside is_p adds is =
    let (more, grown, all) = adds.kept in
    let (before, from) = is.kept in
    record {
      kept = (before ++ more, grown ∙ ap {A = List ℕ} {B = List ℕ} (λ z. z ++ more) from ∙ append_assoc seeds before more);
      each = rw grown (All-append (IsReached (λ r q. Leads s r [] q) seeds) old more is.each
          (All-weaker (HasMove s p Tau) (IsReached (λ r q. Leads s r [] q) seeds) (λ q has. follows q has) more all));
      closed = λ k d r below has.
          let low : k < length old = omega (arith, below, inside) in
          let has' : HasMove s (get_or old k d) Tau r = rw (grown, get_or_append_left old more d k low) at has in
          elim (cases_lt k i) [
            | inl earlier ↦ rw grown (Contains-append_left old more r (is.closed k d r earlier has'))
            | inr late ↦
                let same : k ≡ i = omega (arith, late, below) in
                let here : HasMove s (get_or old i d) Tau r = rw same at has' in
                adds.all r (rw (is_p, get_or_default old i 0 d inside) here)
          ];
      within =
          let longer : length new ≡ length old + length more = rw grown (length-append old more) in
          omega (arith, longer, inside);
    }
  where
    follows : (q : ℕ) → HasMove s p Tau q → IsReached (λ r q. Leads s r [] q) seeds q
    follows q has =
        let reached : IsReached (λ r q. Leads s r [] q) seeds p = rw is_p (is.each i 0 inside) in
        (reached.0, reached.1, Leads-append s reached.0 p q [] [] reached.2 (Leads-tau s p q has))

-- the moves with Tau from all finds have been followed
pub IsClosing-all : (s : System) (seeds found : List ℕ) (n : ℕ) → length found ≤ n → IsClosing s seeds found n → AreReached (λ r q. Leads s r [] q) seeds found
IsClosing-all s seeds found n over is =
    let (more, grown) = is.kept in
    record {
      each = is.each;
      all = λ r q inside leads. Leads-closed s (Contains found)
          (λ p t has move. none_contained (λ p. HasMove s p Tau t → Contains found t) found n over (λ k d below. is.closed k d t below) p has move)
          r q (rw grown (Contains-append_left seeds more r inside)) leads;
    }

-- a step, then moves with Tau: the members of the next list
pub AreNext-from_reached : (s : System) (x : Item) (ps seen found : List ℕ) → AreReached (λ p r. IsSeen s p x r) ps seen → AreReached (λ r q. Leads s r [] q) seen found → AreNext s x ps found
AreNext-from_reached s x ps seen found steps closure = record {
  each = All-weaker (IsReached (λ r q. Leads s r [] q) seen) (Reaches s ps x) into found closure.each;
  all = back;
}
  where
    into : (q : ℕ) → IsReached (λ r q. Leads s r [] q) seen q → Reaches s ps x q
    into q (r, inside, leads) =
        let (p, member, step) = All-contains (IsReached (λ p r. IsSeen s p x r) ps) seen r steps.each inside in
        (p, r, member, step, leads)

    back : (q : ℕ) → Reaches s ps x q → Contains found q
    back q (p, r, member, step, leads) = closure.all r q (steps.all p r member step) leads

-- the members of the next list, in ascending order: the next list
pub IsNext-from_found : (s : System) (x : Item) (ps found sorted : List ℕ) → AreNext s x ps found → IsSorted found sorted → IsNext s x ps sorted
IsNext-from_found s x ps found sorted are is = record {
  rising = is.rising;
  each = All-weaker (Contains found) (Reaches s ps x) (λ q inside. All-contains (Reaches s ps x) found q are.each inside) sorted is.each;
  all = λ q reaches. All-contains (Contains sorted) found q is.all (are.all q reaches);
}

-- moves with Tau from the start, in ascending order: the set after the empty trace
pub IsSetAfter-from_reached : (s : System) (seeds found sorted : List ℕ) → IsAdded [] s.start seeds → AreReached (λ r q. Leads s r [] q) seeds found → IsSorted found sorted → IsSetAfter s [] sorted
IsSetAfter-from_reached s seeds found sorted added closure is = record {
  rising = is.rising;
  each = All-weaker (Contains found) (Ends s []) (λ q inside. into q (All-contains (IsReached (λ r q. Leads s r [] q) seeds) found q closure.each inside)) sorted is.each;
  all = λ q ends. All-contains (Contains sorted) found q is.all (closure.all s.start q (Contains-added [] s.start seeds added) ends);
}
  where
    only : (r : ℕ) → IsAdded [] s.start seeds → Contains seeds r → s.start ≡ r
    only r (inl (same, there)) inside = absurd (Contains-none s.start there)
    only r (inr grown) inside =
        let there : Contains (s.start ∷ []) r = rw grown at inside in
        first there
      where
        first : Contains (s.start ∷ []) r → s.start ≡ r
        first (k, below, at) = let zero_k : k ≡ 0 = omega (arith, below) in rw zero_k at at

    into : (q : ℕ) → IsReached (λ r q. Leads s r [] q) seeds q → Ends s [] q
    into q (r, inside, leads) = rw (only r added inside) leads
