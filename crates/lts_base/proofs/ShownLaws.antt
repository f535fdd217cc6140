-- Texts behind references: what a sort, a pass that drops repeats and a search do to the texts that they show.
use Rattle.std.proofs.Common.{◌≡◌, ◌∙◌, ℕ, ◌+◌, ◌<◌, List, [], ◌∷◌, length, get_or, map, Bool, Contains, inl, inr, refl, sym, ap, arith}
use Rattle.std.specs.Prelude.{Result, Ok, Err, MatchResult}
use Rattle.std.specs.List.{dedup, dedup_from}
use Rattle.std.specs.List.Sorted.{IsSortedBy, IsBinarySearchResult, IsSearchInRange}
use Rattle.std.specs.Ordering.{nat_cmp}
use Rattle.std.specs.Cmp.Lexicographic.{slice_cmp}
use Rattle.std.specs.declared.cmp.Ordering.TheVariants.{Greater}
use Rattle.std.proofs.lemmas.Bool.{cases_Bool, cases_lt}
use Rattle.std.proofs.lemmas.Cmp.{nat_list_cmp_total}
use Rattle.std.proofs.lemmas.List.{get_or-map, length-map}
use Rattle.std.proofs.lemmas.List.Sorted.{searchable_from_sorted}
use Rattle.lts_base.specs.Alphabet.{AreRising, text_at}
use Rattle.lts_base.proofs.LabelLaws.{same_from_equal, equal_to_itself, less_apart, not_below}

module _ {X Y : Type 0} (f : X → Y) where
  -- what is sorted by a key shows sorted keys
  pub sorted-map : (lt : Y → Y → Bool) (xs : List X) → IsSortedBy (λ x y. lt (f x) (f y)) xs → IsSortedBy lt (map f xs)
  sorted-map lt [] h = λ k d low high. absurd (omega (arith, high))
  sorted-map lt (x ∷ xs) h = λ k d low high.
      let inside : k + 1 < length (x ∷ xs) = omega (arith, high, length-map (x ∷ xs) f) in
      rw (get_or-map f (x ∷ xs) (k + 1) x d inside, get_or-map f (x ∷ xs) k x d (omega (arith, inside))) (h k x low inside)

  dedup_from-map : (same : Y → Y → Bool) (k : X) (xs : List X) → map f (dedup_from (λ x y. same (f x) (f y)) k xs) ≡ dedup_from same (f k) (map f xs)
  dedup_from-map same k [] = refl
  dedup_from-map same k (x ∷ xs) = elim (cases_Bool (same (f x) (f k))) [
    | inl again ↦ rw again (dedup_from-map same k xs)
    | inr other ↦ rw other (ap (λ ys. f k ∷ ys) (dedup_from-map same x xs))
  ]

  -- a pass that drops repeats of a key keeps the keys that a pass over them keeps
  pub dedup-map : (same : Y → Y → Bool) (xs : List X) → map f (dedup (λ x y. same (f x) (f y)) xs) ≡ dedup same (map f xs)
  dedup-map same [] = refl
  dedup-map same (x ∷ xs) = dedup_from-map same x xs

module _ {X : Type 0} (key : X → List ℕ) where
  -- what a binary search by keys finds among rising ones
  pub searched_keys : (xs : List X) (text : List ℕ) (r : Result ℕ ℕ) → IsSearchInRange r (length xs) → IsBinarySearchResult (λ x. slice_cmp nat_cmp (key x) text) xs r → AreRising (map key xs) →
      MatchResult r (λ i. (i < length xs) × (text_at (map key xs) i ≡ text)) (λ _. Contains (map key xs) text → ⊥)
  searched_keys [] text (Ok i) range h rising = absurd (omega (arith, range))
  searched_keys [] text (Err i) range h rising = λ has. absurd (omega (arith, has.1))
  searched_keys (x ∷ xs) text (Ok i) range h rising = (range, get_or-map key (x ∷ xs) i x [] range ∙ same_from_equal (key (get_or (x ∷ xs) i x)) text (h x))
  searched_keys (x ∷ xs) text (Err i) range h rising =
      λ has.
      let long : length (map key (x ∷ xs)) ≡ length (x ∷ xs) = length-map (x ∷ xs) key in
      let sorted = searchable_from_sorted nat_list_cmp_total key (x ∷ xs) text
      (λ k d low high.
      let one : key (get_or (x ∷ xs) k d) ≡ text_at (map key (x ∷ xs)) k = sym (get_or-map key (x ∷ xs) k d [] (omega (arith, high))) in
      let two : key (get_or (x ∷ xs) (k + 1) d) ≡ text_at (map key (x ∷ xs)) (k + 1) = sym (get_or-map key (x ∷ xs) (k + 1) d [] high) in
      rw (one, two) (not_below (text_at (map key (x ∷ xs)) k) (text_at (map key (x ∷ xs)) (k + 1)) (rising k (k + 1) (omega arith) (omega (arith, high, long))))) in
      let point = h sorted in
      let here : key (get_or (x ∷ xs) has.0 x) ≡ text = sym (get_or-map key (x ∷ xs) has.0 x text (omega (arith, has.1, long))) ∙ has.2 in
      elim (cases_lt has.0 i) [
        | inl lt ↦ less_apart text text (rw here at (point.0 has.0 x (omega arith) lt)) refl
        | inr ge ↦
            let greater : slice_cmp nat_cmp text text ≡ Greater = rw here at (point.1 has.0 x ge (omega (arith, has.1, long))) in
            let equal = equal_to_itself text in cc
      ]
