-- The pair of the two opening sets, which is the first of the reached pairs, where one of them alone passes the limit of
-- members: the decision is cut there, with no walk and no set at hand.
use Rattle.std.proofs.Common.{◌≡◌, ℕ, ◌+◌, ◌<◌, ◌≤◌, List, [], ◌∷◌, length, get_or, refl, sym, ap, ap₂, subst, arith, inl, inr, ◌⊎◌, zero-add}
use Rattle.std.specs.Prelude.{Contains}
use Rattle.std.proofs.lemmas.List.Elements.{All-contains, All-weaker}
use Rattle.lts_base.specs.declared.action.Act.TheVariants.{Tau, Label}
use Rattle.lts_base.specs.declared.action.Move.{Move}
use Rattle.lts_base.specs.declared.divergence.Divergence.TheVariants.{Refuse}
use Rattle.lts_base.specs.declared.item.Item.{Item}
use Rattle.lts_base.specs.declared.item.Item.TheVariants.{Input}
use Rattle.lts_base.specs.declared.item.Mode.{Mode}
use Rattle.lts_base.specs.System.{System, IsSystem, IsMoveOf, HasMove, IsTauPath, label_count}
use Rattle.lts_base.specs.Path.{Leads, Ends}
use Rattle.lts_base.specs.After.{IsSetAfter}
use Rattle.lts_base.specs.Next.{Reaches}
use Rattle.lts_base.specs.Order.{IsBefore, IsAtMost}
use Rattle.lts_base.specs.Reached.{Row, IsReachedBy, IsLeastOf, AreFirstPairs, Limits, IsWithin, total_members}
use Rattle.lts_base.proofs.ListLaws.{Contains-first_cases, Contains-rest, Contains-first, Contains-none}
use Rattle.lts_base.proofs.Leads.{Leads-here, IsSeen-input, IsSeen-from_input}
use Rattle.lts_base.proofs.TauLaws.{Leads-from_tau_leads, TauLeads-from_leads}
use Rattle.lts_base.proofs.NextLaws.{next_exists}
use Rattle.lts_base.proofs.SetLaws.{IsSetAfter-unique}
use Rattle.lts_base.proofs.AllowedLaws.{IsAllowed-nil}
use Rattle.walk_core.specs.declared.walk.WalkError.TheVariants.{Full}
use Rattle.walk_core.specs.Walked.{Walked, IsFresh, set_at}
use Rattle.walk_core.specs.Refused.{RefusesOpening}
use Rattle.conf_decide.specs.declared.answer.Answer.TheVariants.{Undecided}
use Rattle.conf_decide.specs.declared.answer.What.TheVariants.{ImpMembers, SpecMembers}
use Rattle.conf_decide.specs.Decided.{IsCut, IsDecided}

-- ---- each system has an opening set: it is the next set, by the one input, of a state that is added before the start

entry : System → Move
entry s = record { from = s.states; act = Label 0; to = s.start }

abbrev entered : System → System
entered s = record { states = s.states + 1; start = s.start; inputs = 1; outputs = 0; divergence = Refuse; moves = record { from = s.states; act = Label 0; to = s.start } ∷ s.moves }

tau_kept : (s : System) (p q : ℕ) → HasMove (entered s) p Tau q → HasMove s p Tau q
tau_kept s p q has = elim (Contains-first_cases (record { from = s.states; act = Label 0; to = s.start }) s.moves _ has) [
  | inl same ↦ let no : Label 0 ≡ Tau = ap (λ (m : Move). m.act) same in cc
  | inr there ↦ there
]

path_out : (s : System) (p : ℕ) (rs : List ℕ) (q : ℕ) → IsTauPath (entered s) p rs q → IsTauPath s p rs q
path_out s p [] q on = on
path_out s p (r ∷ rs) q (has, on) = (tau_kept s p r has, path_out s r rs q on)

path_in : (s : System) (p : ℕ) (rs : List ℕ) (q : ℕ) → IsTauPath s p rs q → IsTauPath (entered s) p rs q
path_in s p [] q on = on
path_in s p (r ∷ rs) q (has, on) = (Contains-rest _ s.moves _ has, path_in s r rs q on)

leads_out : (s : System) (p q : ℕ) → Leads (entered s) p [] q → Leads s p [] q
leads_out s p q leads = let (rs, on) = TauLeads-from_leads (entered s) p q leads in Leads-from_tau_leads s p q (rs, path_out s p rs q on)

leads_in : (s : System) (p q : ℕ) → Leads s p [] q → Leads (entered s) p [] q
leads_in s p q leads = let (rs, on) = TauLeads-from_leads s p q leads in Leads-from_tau_leads (entered s) p q (rs, path_in s p rs q on)

opened : (s : System) → IsSystem s → (q : ℕ) → Reaches (entered s) (s.states ∷ []) (Input 0) q → Ends s [] q
opened s system q (p, r, inside, seen, leads) =
    elim (Contains-first_cases s.states [] p inside) [
      | inr none ↦ absurd (Contains-none p none)
      | inl here ↦
          elim (Contains-first_cases (record { from = s.states; act = Label 0; to = s.start }) s.moves _ (IsSeen-input (entered s) p 0 r seen).0) [
            | inl same ↦ let to : s.start ≡ r = ap (λ (m : Move). m.to) same in rw (← to) at (leads_out s r q leads)
            | inr there ↦
                let low : p < s.states = (All-contains (IsMoveOf s.states (label_count s)) s.moves _ system.moves there).from in
                absurd (omega (arith, low, here))
          ]
    ]

-- each system has a set after the empty trace
pub opening_exists : (s : System) → IsSystem s → (qs : List ℕ) × IsSetAfter s [] qs
opening_exists s system =
    let (qs, next) = next_exists (entered s) (Input 0) (s.states ∷ []) in (
      qs,
      record {
        rising = next.rising;
        each = All-weaker (Reaches (entered s) (s.states ∷ []) (Input 0)) (Ends s []) (λ q reaches. opened s system q reaches) qs next.each;
        all = λ q ends. next.all q (
          s.states,
          s.start,
          Contains-first s.states [],
          IsSeen-from_input (entered s) s.states 0 s.start (omega arith) (Contains-first _ s.moves),
          leads_in s s.start q ends,
        );
      },
    )

-- ---- the pair of the two opening sets

nil_first : (n : ℕ) (σ : List Item) → IsAtMost n [] σ
nil_first n [] = inl refl
nil_first n (x ∷ σ) = inr (inl (omega arith))

opening_pairs : (mode : Mode) (i s : System) (ps qs : List ℕ) → IsSetAfter i [] ps → IsSetAfter s [] qs →
    AreFirstPairs mode i s (record { left = ps; right = qs } ∷ []) ([] ∷ [])
opening_pairs mode i s ps qs left right = record {
  long = refl;
  least = λ k below. let zero_is : k ≡ 0 = omega arith in rw zero_is here;
  rising = λ j k lt below. absurd (omega arith);
  others = others;
}
  where
    here : IsLeastOf mode i s [] (record { left = ps; right = qs })
    here = record {
      reached = record { allowed = IsAllowed-nil mode s; has = (i.start, Leads-here i i.start); left = left; right = right };
      least = λ τ reached. nil_first (label_count s) τ;
    }

    others : (σ : List Item) (row : Row) → IsReachedBy mode i s σ row → Contains (record { left = ps; right = qs } ∷ []) row ⊎
        ((k : ℕ) → k < 1 → IsBefore (label_count s) (get_or ([] ∷ []) k []) σ)
    others [] row reached =
        let e : ps ≡ row.left = IsSetAfter-unique i [] ps row.left left reached.left in
        let f : qs ≡ row.right = IsSetAfter-unique s [] qs row.right right reached.right in
        let F : List ℕ → List ℕ → Row = λ a b. record { left = a; right = b } in
        inl (0, omega arith, ap₂ F e f)
    others (x ∷ σ) row reached = inr (λ k below. let zero_is : k ≡ 0 = omega arith in rw zero_is (inl (omega arith)))

none_within : (limits : Limits) → IsWithin limits []
none_within limits = record { pairs = omega arith; imp = omega arith; spec = omega arith }

imp_cut : (mode : Mode) (limits : Limits) (i s : System) (ps qs : List ℕ) → IsSetAfter i [] ps → IsSetAfter s [] qs → limits.imp < length ps →
    IsCut mode limits i s ImpMembers (length ps) 0 (record { left = ps; right = qs } ∷ []) ([] ∷ [])
imp_cut mode limits i s ps qs left right over = record {
  first = opening_pairs mode i s ps qs left right;
  before = λ k below. let zero_is : k ≡ 0 = omega arith in rw zero_is (none_within limits);
  past = (sym (zero-add (length ps)), over);
  fine = λ k below. absurd (omega arith);
  cut = refl;
}

spec_cut : (mode : Mode) (limits : Limits) (i s : System) (ps qs : List ℕ) → IsSetAfter i [] ps → IsSetAfter s [] qs → length ps ≤ limits.imp → limits.spec < length qs →
    IsCut mode limits i s SpecMembers (length qs) 0 (record { left = ps; right = qs } ∷ []) ([] ∷ [])
spec_cut mode limits i s ps qs left right within over = record {
  first = opening_pairs mode i s ps qs left right;
  before = λ k below. let zero_is : k ≡ 0 = omega arith in rw zero_is (none_within limits);
  past = (rw (zero-add (length ps)) within, sym (zero-add (length qs)), over);
  fine = λ k below. absurd (omega arith);
  cut = refl;
}

-- no walk of the implementation begins: the decision is cut at the opening pair
pub imp_refused : (mode : Mode) (limits : Limits) (i s : System) (reached : ℕ) → IsSystem s → RefusesOpening i limits.imp (Full reached) → IsDecided mode limits i s (Undecided ImpMembers reached 0)
imp_refused mode limits i s reached system (ps, left, e, over) =
    let (qs, right) = opening_exists s system in (
      record { left = ps; right = qs } ∷ [],
      [] ∷ [],
      subst (λ (n : ℕ). IsCut mode limits i s ImpMembers n 0 (record { left = ps; right = qs } ∷ []) ([] ∷ [])) (sym e)
          (imp_cut mode limits i s ps qs left right (subst (λ (n : ℕ). limits.imp < n) e over)),
    )

-- a walk of the implementation began, and none of the specification does
pub spec_refused : (mode : Mode) (limits : Limits) (w : Walked) (i s : System) (reached : ℕ) → IsFresh w → w.system ≡ i → w.limit ≡ limits.imp → RefusesOpening s limits.spec (Full reached) →
    IsDecided mode limits i s (Undecided SpecMembers reached 0)
spec_refused mode limits w i s reached fresh of limit (qs, right, e, over) =
    let left : IsSetAfter i [] (set_at w.sets 0) = subst (λ (t : System). IsSetAfter t [] (set_at w.sets 0)) of fresh.opening in
    let within : length (set_at w.sets 0) ≤ limits.imp = subst (λ (n : ℕ). length (set_at w.sets 0) ≤ n) limit (one_within w.sets w.limit fresh.alone fresh.walk.within) in (
      record { left = set_at w.sets 0; right = qs } ∷ [],
      [] ∷ [],
      subst (λ (n : ℕ). IsCut mode limits i s SpecMembers n 0 (record { left = set_at w.sets 0; right = qs } ∷ []) ([] ∷ [])) (sym e)
          (spec_cut mode limits i s (set_at w.sets 0) qs left right within (subst (λ (n : ℕ). limits.spec < n) e over)),
    )
  where
    one_within : (sets : List (List ℕ)) (limit : ℕ) → length sets ≡ 1 → total_members sets ≤ limit → length (set_at sets 0) ≤ limit
    one_within [] limit alone h = absurd (omega (arith, alone))
    one_within (p ∷ []) limit alone h = rw zero-add at h
    one_within (p ∷ q ∷ sets) limit alone h = absurd (omega (arith, alone))
