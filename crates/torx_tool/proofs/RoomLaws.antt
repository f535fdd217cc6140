-- A decision that is cut has met no violation: its pairs are reached by traces up to the first violation.
use Rattle.std.proofs.Common.{◌≡◌, ℕ, zero, suc, ◌+◌, ◌<◌, List, [], ◌∷◌, ◌++◌, length, All, Contains, inl, inr, refl, sym, ◌∙◌, ap, subst, arith, ◌⊎◌}
use Rattle.std.specs.List.Sorted.{IsStrictlyIncreasing}
use Rattle.std.proofs.lemmas.Bool.{cases_lt}
use Rattle.std.proofs.lemmas.List.{get_or_default}
use Rattle.std.proofs.lemmas.List.Elements.{All-nil, All-push, All-head, All-tail, All-weaker, All-contains, Contains-push, Contains-append_left}
use Rattle.lts_base.specs.declared.item.Item.{Item}
use Rattle.lts_base.specs.declared.item.Item.TheVariants.{Input, Output, Delta}
use Rattle.lts_base.specs.declared.item.Mode.{Mode}
use Rattle.lts_base.specs.System.{System, IsSystem, IsMoveOf, IsItemOf, label_count}
use Rattle.lts_base.specs.Path.{Step, Along, Rest, IsPath, Ends, Has}
use Rattle.lts_base.specs.After.{IsSetAfter}
use Rattle.lts_base.specs.Conformance.{IsViolation}
use Rattle.lts_base.specs.Order.{place, IsLexBelow, IsBefore, IsAtMost}
use Rattle.lts_base.specs.Reached.{Row, no_row, row_at, trace_at, IsReachedBy, IsLeastOf, IsFine, Limits}
use Rattle.lts_base.proofs.ListLaws.{snoc_induction, IsStrictlyIncreasing-push}
use Rattle.lts_base.proofs.SetLaws.{Has-front, Has-item, Shows-from_after, ShowsAfter-from_shows}
use Rattle.lts_base.proofs.AllowedLaws.{IsAllowed-has}
use Rattle.lts_base.proofs.OrderLaws.{IsBefore-trans, IsBefore-irreflexive, IsAtMost-before}
use Rattle.conf_decide.specs.declared.answer.What.{What}
use Rattle.conf_decide.specs.Decided.{IsCut}

-- a path ends at a state
path_within : (s : System) → IsSystem s → (steps : List Step) (p q : ℕ) → p < s.states → IsPath s p steps q → q < s.states
path_within s system [] p q low on = subst (λ (n : ℕ). n < s.states) on low
path_within s system (Along m ∷ steps) p q low (from, has, on) =
    let one = All-contains (IsMoveOf s.states (label_count s)) s.moves m system.moves has in
    path_within s system steps m.to q one.to on
path_within s system (Rest ∷ steps) p q low (quiet, on) = path_within s system steps p q low on

-- these are the states below n that end the trace
record IsSetBelow (s : System) (σ : List Item) (n : ℕ) (ps : List ℕ) : Type 0 where
  pub rising : IsStrictlyIncreasing ps
  pub each : All (Ends s σ) ps
  pub below : All (λ (p : ℕ). p < n) ps
  pub all : (q : ℕ) → Ends s σ q → q < n → Contains ps q

-- the next state ends the trace, and is added
set_more : (s : System) (σ : List Item) (n : ℕ) (ps : List ℕ) → IsSetBelow s σ n ps → Ends s σ n → IsSetBelow s σ (suc n) (ps ++ n ∷ [])
set_more s σ n ps is ends = record {
  rising = IsStrictlyIncreasing-push ps n is.rising is.below;
  each = All-push (Ends s σ) ps n is.each ends;
  below = All-push (λ (p : ℕ). p < suc n) ps n (All-weaker (λ (p : ℕ). p < n) (λ (p : ℕ). p < suc n) (λ p low. omega (arith, low)) ps is.below) (omega arith);
  all = λ q ends_q low. elim (cases_lt q n) [
    | inl less ↦ Contains-append_left ps (n ∷ []) q (is.all q ends_q less)
    | inr most ↦
        let same : n ≡ q = omega (arith, low, most) in
        subst (λ (k : ℕ). Contains (ps ++ n ∷ []) k) same (Contains-push ps n)
  ];
}

-- the next state doesn't end the trace
set_same : (s : System) (σ : List Item) (n : ℕ) (ps : List ℕ) → IsSetBelow s σ n ps → (Ends s σ n → ⊥) → IsSetBelow s σ (suc n) ps
set_same s σ n ps is none = record {
  rising = is.rising;
  each = is.each;
  below = All-weaker (λ (p : ℕ). p < n) (λ (p : ℕ). p < suc n) (λ p low. omega (arith, low)) ps is.below;
  all = λ q ends low. elim (cases_lt q n) [
    | inl less ↦ is.all q ends less
    | inr most ↦
        let same : q ≡ n = omega (arith, low, most) in
        absurd (none (subst (Ends s σ) same ends))
  ];
}

-- there can't be none such
no_set_below : (s : System) (σ : List Item) (n : ℕ) → ((ps : List ℕ) → IsSetBelow s σ n ps → ⊥) → ⊥
no_set_below s σ zero none = none [] (record {
  rising = λ j below. absurd (omega (arith, below));
  each = All-nil (Ends s σ);
  below = All-nil (λ (p : ℕ). p < zero);
  all = λ q ends low. absurd (omega (arith, low));
})
no_set_below s σ (suc n) none = no_set_below s σ n (λ ps is. none ps (set_same s σ n ps is (λ ends. none (ps ++ n ∷ []) (set_more s σ n ps is ends))))

-- there can't be no set after a trace
no_set : (s : System) (σ : List Item) → IsSystem s → ((ps : List ℕ) → IsSetAfter s σ ps → ⊥) → ⊥
no_set s σ system none = no_set_below s σ s.states (λ ps is. none ps (record {
  rising = is.rising;
  each = is.each;
  all = λ q ends. is.all q ends (path_within s system ends.0 s.start q system.start ends.1);
}))

-- a trace that the system has is of its items
items_of_has : (s : System) → IsSystem s → (σ : List Item) → Has s σ → All (IsItemOf s) σ
items_of_has s system =
    snoc_induction (λ (σ : List Item). Has s σ → All (IsItemOf s) σ)
    (λ has. All-nil (IsItemOf s))
    (λ σ x front has. All-push (IsItemOf s) σ x (front (Has-front s σ x has)) (Has-item s σ x system has))

-- items of a system with one place are the same
item_same : (s : System) (x y : Item) → IsItemOf s x → IsItemOf s y → place (label_count s) x ≡ place (label_count s) y → x ≡ y
item_same s (Input a) (Input b) one other same = ap Input same
item_same s (Input a) (Output b) one other same = absurd (omega (arith, one, other.0, same))
item_same s (Input a) Delta one other same = absurd (omega (arith, one, same))
item_same s (Output a) (Input b) one other same = absurd (omega (arith, one.0, other, same))
item_same s (Output a) (Output b) one other same = ap Output same
item_same s (Output a) Delta one other same = absurd (omega (arith, one.1, same))
item_same s Delta (Input b) one other same = absurd (omega (arith, other, same))
item_same s Delta (Output b) one other same = absurd (omega (arith, other.1, same))
item_same s Delta Delta one other same = refl

-- of two traces of one length one comes first, or they are the same
lex_cases : (s : System) (σ τ : List Item) → All (IsItemOf s) σ → All (IsItemOf s) τ → length σ ≡ length τ → (σ ≡ τ) ⊎ (IsLexBelow (label_count s) σ τ ⊎ IsLexBelow (label_count s) τ σ)
lex_cases s [] [] one other long = inl refl
lex_cases s [] (y ∷ τ) one other long = absurd (omega (arith, long))
lex_cases s (x ∷ σ) [] one other long = absurd (omega (arith, long))
lex_cases s (x ∷ σ) (y ∷ τ) one other long = elim (cases_lt (place (label_count s) x) (place (label_count s) y)) [
  | inl less ↦ inr (inl (inl less))
  | inr most ↦ elim (cases_lt (place (label_count s) y) (place (label_count s) x)) [
    | inl less ↦ inr (inr (inl less))
    | inr least ↦
        let same : x ≡ y = item_same s x y (All-head (IsItemOf s) x σ one) (All-head (IsItemOf s) y τ other) (omega (arith, most, least)) in
        elim (lex_cases s σ τ (All-tail (IsItemOf s) x σ one) (All-tail (IsItemOf s) y τ other) (omega (arith, long))) [
          | inl rest ↦ inl (cc (same, rest))
          | inr (inl before) ↦ inr (inl (inr (same, before)))
          | inr (inr after) ↦ inr (inr (inr (sym same, after)))
        ]
  ]
]

-- of two traces the first is at most the second, or comes after it
order_cases : (s : System) (σ τ : List Item) → All (IsItemOf s) σ → All (IsItemOf s) τ → IsAtMost (label_count s) σ τ ⊎ IsBefore (label_count s) τ σ
order_cases s σ τ one other = elim (cases_lt (length σ) (length τ)) [
  | inl less ↦ inl (inr (inl less))
  | inr most ↦ elim (cases_lt (length τ) (length σ)) [
    | inl less ↦ inr (inl less)
    | inr least ↦
        let long : length σ ≡ length τ = omega (arith, most, least) in
        elim (lex_cases s σ τ one other long) [
          | inl same ↦ inl (inl same)
          | inr (inl before) ↦ inl (inr (inr (long, before)))
          | inr (inr after) ↦ inr (inr (sym long, after))
        ]
  ]
]

-- a violation's pair isn't among those of a decision that is cut after it
passed : (mode : Mode) (limits : Limits) (i s : System) (what : What) (reached depth : ℕ) (rows : List Row) (traces : List (List Item)) (σ : List Item) (x : Item) (ps qs : List ℕ) (k : ℕ) →
    IsCut mode limits i s what reached depth rows traces → IsViolation mode i s σ x → IsSetAfter i σ ps → IsSetAfter s σ qs → k < length rows → IsBefore (label_count s) σ (trace_at traces k) → ⊥
passed mode limits i s what reached depth rows traces σ x ps qs k cut bad left right below past = elim (cut.first.others σ row here) [
  | inl (j, low, at) ↦ met j low (get_or_default rows j no_row row low ∙ at)
  | inr before ↦ IsBefore-irreflexive (label_count s) σ (IsBefore-trans (label_count s) σ (trace_at traces k) σ past (before k below))
]
  where
    row : Row
    row = record { left = ps; right = qs }

    here : IsReachedBy mode i s σ row
    here = record { allowed = bad.allowed; has = (bad.shown.0, bad.shown.1); left = left; right = right }

    met : (j : ℕ) → j < length rows → row_at rows j ≡ row → ⊥
    met j low same =
        let least : IsLeastOf mode i s (trace_at traces j) row = subst (IsLeastOf mode i s (trace_at traces j)) same (cut.first.least j low) in
        let before : IsBefore (label_count s) (trace_at traces j) (trace_at traces k) = IsAtMost-before (label_count s) (trace_at traces j) σ (trace_at traces k) (least.least σ here) past in
        elim (cases_lt (j + 1) (length rows)) [
          | inl early ↦
              let fine : IsFine i s row = subst (IsFine i s) same (cut.fine j early) in
              bad.unshown (ShowsAfter-from_shows s σ qs x right (fine x (Shows-from_after i σ ps x left bad.shown)))
          | inr last ↦ elim (cases_lt k j) [
            | inl less ↦ IsBefore-irreflexive (label_count s) (trace_at traces j) (IsBefore-trans (label_count s) (trace_at traces j) (trace_at traces k) (trace_at traces j) before (cut.first.rising k j less low))
            | inr most ↦
                let end : k ≡ j = omega (arith, below, last, most) in
                IsBefore-irreflexive (label_count s) (trace_at traces j) (subst (λ (n : ℕ). IsBefore (label_count s) (trace_at traces j) (trace_at traces n)) end before)
          ]
        ]

-- the pairs of a decision that is cut are reached by traces up to each violating trace
pub cut_up_to : (mode : Mode) (limits : Limits) (i s : System) (what : What) (reached depth : ℕ) (rows : List Row) (traces : List (List Item)) (σ : List Item) (x : Item) → IsSystem i → IsSystem s →
    IsCut mode limits i s what reached depth rows traces → IsViolation mode i s σ x → (k : ℕ) → k < length rows → IsAtMost (label_count s) (trace_at traces k) σ
cut_up_to mode limits i s what reached depth rows traces σ x imp spec cut bad k below =
    let least = cut.first.least k below in
    elim (order_cases s (trace_at traces k) σ (items_of_has s spec (trace_at traces k) (IsAllowed-has mode s (trace_at traces k) least.reached.allowed)) (items_of_has s spec σ (IsAllowed-has mode s σ bad.allowed))) [
      | inl low ↦ low
      | inr past ↦ absurd (no_set i σ imp (λ ps left. no_set s σ spec (λ qs right. passed mode limits i s what reached depth rows traces σ x ps qs k cut bad left right below past)))
    ]
