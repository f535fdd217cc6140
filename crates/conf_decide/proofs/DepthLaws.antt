-- The least traces of the first pairs are short: each has no more items than there are pairs before its own.
use Rattle.std.proofs.Common.{◌≡◌, ◌∙◌, ℕ, zero, suc, ◌+◌, ◌<◌, ◌≤◌, List, [], ◌∷◌, ◌++◌, length, Contains, inl, inr, refl, sym, ap, subst, arith}
use Rattle.std.proofs.lemmas.Bool.{cases_lt}
use Rattle.std.proofs.lemmas.List.{get_or_default, length_push}
use Rattle.lts_base.specs.declared.item.Item.{Item}
use Rattle.lts_base.specs.declared.item.Mode.{Mode}
use Rattle.lts_base.specs.System.{System, IsSystem, label_count}
use Rattle.lts_base.specs.After.{IsSetAfter}
use Rattle.lts_base.specs.Next.{IsNext}
use Rattle.lts_base.specs.Order.{IsBefore, IsAtMost}
use Rattle.lts_base.specs.Reached.{Row, no_row, row_at, trace_at, IsReachedBy, AreFirstPairs}
use Rattle.lts_base.proofs.ListLaws.{snoc_induction}
use Rattle.lts_base.proofs.OrderLaws.{IsBefore-longer, IsBefore-trans, IsBefore-irreflexive, IsAtMost-before}
use Rattle.lts_base.proofs.NextLaws.{next_exists}
use Rattle.lts_base.proofs.SetLaws.{IsSetAfter-unique, IsSetAfter-next, Has-from_set, Has-set_some, Has-front, Has-item}
use Rattle.lts_base.proofs.AllowedLaws.{IsAllowed-has, IsAllowed-front, IsAllowed-last, IsAllowed-push}
use Rattle.conf_decide.proofs.OpeningLaws.{opening_exists}

-- each trace leads to a set
set_exists : (s : System) → IsSystem s → (σ : List Item) → (ps : List ℕ) × IsSetAfter s σ ps
set_exists s system = snoc_induction (λ (σ : List Item). (ps : List ℕ) × IsSetAfter s σ ps) (opening_exists s system)
    (λ σ x (ps, set). let (qs, next) = next_exists s x ps in (qs, IsSetAfter-next s x σ ps qs set next))

-- the set after a longer trace is the next one
next_of_set : (s : System) (σ : List Item) (x : Item) (ps qs : List ℕ) → IsSetAfter s σ ps → IsSetAfter s (σ ++ x ∷ []) qs → IsNext s x ps qs
next_of_set s σ x ps qs set longer =
    let (rs, next) = next_exists s x ps in
    subst (IsNext s x ps) (IsSetAfter-unique s (σ ++ x ∷ []) rs qs (IsSetAfter-next s x σ ps rs set next) longer) next

-- what is at most a trace isn't longer
at_most_length : (n : ℕ) (σ τ : List Item) → IsAtMost n σ τ → length σ ≤ length τ
at_most_length n σ τ (inl same) = omega (arith, ap {A = List Item} {B = ℕ} length same)
at_most_length n σ τ (inr (inl less)) = omega (arith, less)
at_most_length n σ τ (inr (inr (same, below))) = omega (arith, same)

module _ (mode : Mode) (i s : System) (imp : IsSystem i) (spec : IsSystem s) where
  -- the front of a trace that reaches a pair reaches one
  front_reaches : (τ : List Item) (x : Item) (row : Row) → IsReachedBy mode i s (τ ++ x ∷ []) row → (before : Row) × IsReachedBy mode i s τ before
  front_reaches τ x row by =
      let (ps, left) = set_exists i imp τ in
      let (qs, right) = set_exists s spec τ in
      (record { left = ps; right = qs }, record { allowed = IsAllowed-front mode s τ x by.allowed; has = Has-front i τ x by.has; left = left; right = right })

  -- traces that reach one pair reach one with the same item after them
  same_step : (τ ρ : List Item) (x : Item) (before row : Row) → IsReachedBy mode i s τ before → IsReachedBy mode i s ρ before → IsReachedBy mode i s (τ ++ x ∷ []) row → IsReachedBy mode i s (ρ ++ x ∷ []) row
  same_step τ ρ x before row one other by =
      let item = Has-item s τ x spec (IsAllowed-has mode s (τ ++ x ∷ []) by.allowed) in
      let left = IsSetAfter-next i x ρ before.left row.left other.left (next_of_set i τ x before.left row.left one.left by.left) in
      let right = IsSetAfter-next s x ρ before.right row.right other.right (next_of_set s τ x before.right row.right one.right by.right) in
      record {
        allowed = IsAllowed-push mode s ρ x before.right spec item other.right other.allowed (IsAllowed-last mode s τ x before.right spec one.right by.allowed);
        has = Has-from_set i (ρ ++ x ∷ []) row.left left (Has-set_some i (τ ++ x ∷ []) row.left by.left by.has);
        left = left;
        right = right;
      }

  module _ (rows : List Row) (ts : List (List Item)) (first : AreFirstPairs mode i s rows ts) where
    -- the front of the least trace of a pair reaches a pair before it
    front_before : (k j : ℕ) (τ : List Item) (x : Item) → k < length rows → j < length rows → τ ++ x ∷ [] ≡ trace_at ts k → IsReachedBy mode i s τ (row_at rows j) → j < k
    front_before k j τ x low below is by = elim (cases_lt j k) [
      | inl less ↦ less
      | inr over ↦
          let n = label_count s in
          let longer : IsBefore n τ (trace_at ts k) = subst (IsBefore n τ) is (IsBefore-longer n τ x) in
          let least : IsAtMost n (trace_at ts j) τ = (first.least j below).least τ by in
          let later : IsBefore n (trace_at ts j) (trace_at ts k) = IsAtMost-before n (trace_at ts j) τ (trace_at ts k) least longer in
          elim (cases_lt k j) [
            | inl more ↦ absurd (IsBefore-irreflexive n (trace_at ts j) (IsBefore-trans n (trace_at ts j) (trace_at ts k) (trace_at ts j) later (first.rising k j more below)))
            | inr most ↦
                let same : k ≡ j = omega (arith, over, most) in
                absurd (IsBefore-irreflexive n (trace_at ts j) (subst (λ (m : ℕ). IsBefore n (trace_at ts j) (trace_at ts m)) same later))
          ]
    ]

    step : (k : ℕ) (τ : List Item) (x : Item) → k < length rows → τ ++ x ∷ [] ≡ trace_at ts k → ((j : ℕ) → j < k → length (trace_at ts j) ≤ j) → length (τ ++ x ∷ []) ≤ k
    step k τ x low is below = go (front_reaches τ x (row_at rows k) reached)
      where
        reached : IsReachedBy mode i s (τ ++ x ∷ []) (row_at rows k)
        reached = subst (λ (σ : List Item). IsReachedBy mode i s σ (row_at rows k)) (sym is) (first.least k low).reached

        go : (before : Row) × IsReachedBy mode i s τ before → length (τ ++ x ∷ []) ≤ k
        go (before, by) = elim (first.others τ before by) [
          | inr all ↦
              let n = label_count s in
              let longer : IsBefore n τ (trace_at ts k) = subst (IsBefore n τ) is (IsBefore-longer n τ x) in
              absurd (IsBefore-irreflexive n τ (IsBefore-trans n τ (trace_at ts k) τ longer (all k low)))
          | inl (j, inside, at) ↦
              let here : row_at rows j ≡ before = get_or_default rows j no_row before inside ∙ at in
              let by_row : IsReachedBy mode i s τ (row_at rows j) = subst (IsReachedBy mode i s τ) (sym here) by in
              let less = front_before k j τ x low inside is by_row in
              let by_least : IsReachedBy mode i s (trace_at ts j ++ x ∷ []) (row_at rows k) = same_step τ (trace_at ts j) x (row_at rows j) (row_at rows k) by_row (first.least j inside).reached reached in
              let most = at_most_length (label_count s) (trace_at ts k) (trace_at ts j ++ x ∷ []) ((first.least k low).least (trace_at ts j ++ x ∷ []) by_least) in
              let short = below j less in
              omega (arith, most, less, short, length_push (trace_at ts j) x, ap {A = List Item} {B = ℕ} length is)
        ]

    short_below : (n k : ℕ) → k < n → k < length rows → length (trace_at ts k) ≤ k
    short_below zero k less low = absurd (omega (arith, less))
    short_below (suc n) k less low =
        snoc_induction (λ (σ : List Item). σ ≡ trace_at ts k → length σ ≤ k) (λ is. omega arith)
        (λ τ x more is. step k τ x low is (λ j before. short_below n j (omega (arith, before, less)) (omega (arith, before, low)))) (trace_at ts k) refl

    -- the least trace of pair number k has at most k items
    pub trace_short : (k : ℕ) → k < length rows → length (trace_at ts k) ≤ k
    trace_short k low = short_below (k + 1) k (omega arith) low
