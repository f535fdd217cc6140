-- Texts in the order of their bytes, and the search for one.
use Rattle.std.proofs.Common.{◌≡◌, ℕ, ◌+◌, ◌<◌, List, [], length, get_or, take, drop, Contains, true, false, refl, sym, ◌∙◌, ap, subst, arith, inl, inr}
use Rattle.std.specs.Prelude.{Result, Ok, Err, MatchResult}
use Rattle.std.specs.List.Sorted.{IsBinarySearchResult, IsSearchInRange}
use Rattle.std.specs.Ordering.{nat_cmp, is_eq, is_lt, ordering_reverse}
use Rattle.std.specs.Cmp.Lexicographic.{slice_cmp}
use Rattle.std.specs.declared.cmp.Ordering.{Ordering}
use Rattle.std.specs.declared.cmp.Ordering.TheVariants.{Less, Equal, Greater}
use Rattle.std.proofs.lemmas.List.{take-append-drop, get_or_default}
use Rattle.std.proofs.lemmas.List.Elements.{Contains-append_cases}
use Rattle.std.proofs.lemmas.List.Sorted.{searchable_from_sorted}
use Rattle.std.proofs.lemmas.Slice.Eq.{bytes_eq-Decides}
use Rattle.std.proofs.lemmas.Map.Text.{is_eq-slice_cmp}
use Rattle.std.proofs.lemmas.Cmp.{nat_list_cmp_total}
use Rattle.std.proofs.lemmas.Bool.{cases_lt}
use Rattle.lts_base.specs.Alphabet.{AreRising, text_at}

pub equal_from_is_eq : (o : Ordering) → is_eq o ≡ true → o ≡ Equal
equal_from_is_eq Less h = cc
equal_from_is_eq Equal h = refl
equal_from_is_eq Greater h = cc

pub same_from_equal : (a b : List ℕ) → slice_cmp nat_cmp a b ≡ Equal → a ≡ b
same_from_equal a b h =
    let e : is_eq (slice_cmp nat_cmp a b) ≡ true = ap is_eq h in
    (bytes_eq-Decides a b).0 (sym (is_eq-slice_cmp a b) ∙ e)

pub equal_to_itself : (a : List ℕ) → slice_cmp nat_cmp a a ≡ Equal
equal_to_itself a = equal_from_is_eq (slice_cmp nat_cmp a a) (is_eq-slice_cmp a a ∙ (bytes_eq-Decides a a).1 refl)

pub less_apart : (a b : List ℕ) → slice_cmp nat_cmp a b ≡ Less → a ≡ b → ⊥
less_apart a b less same = let e : slice_cmp nat_cmp a b ≡ Equal = subst (λ (z : List ℕ). slice_cmp nat_cmp a z ≡ Equal) same (equal_to_itself a) in cc

-- what is less isn't greater
pub not_below : (a b : List ℕ) → slice_cmp nat_cmp a b ≡ Less → is_lt (slice_cmp nat_cmp b a) ≡ false
not_below a b less = let e : slice_cmp nat_cmp b a ≡ Greater = nat_list_cmp_total.antisymm b a ∙ ap ordering_reverse less in ap is_lt e

-- what a binary search finds among rising texts
pub searched_texts : (texts : List (List ℕ)) (text : List ℕ) (r : Result ℕ ℕ) → IsSearchInRange r (length texts) →
    IsBinarySearchResult (λ t. slice_cmp nat_cmp t text) texts r → AreRising texts →
    MatchResult r (λ i. (i < length texts) × (text_at texts i ≡ text)) (λ _. Contains texts text → ⊥)
searched_texts texts text (Ok i) range h rising = (range, same_from_equal (text_at texts i) text (h []))
searched_texts texts text (Err i) range h rising =
    λ has.
    let sorted = searchable_from_sorted nat_list_cmp_total (λ (t : List ℕ). t) texts text
    (λ k d low high.
    let one : get_or texts k d ≡ text_at texts k = get_or_default texts k d [] (omega arith) in
    let two : get_or texts (k + 1) d ≡ text_at texts (k + 1) = get_or_default texts (k + 1) d [] high in
    rw (one, two) (not_below (text_at texts k) (text_at texts (k + 1)) (rising k (k + 1) (omega arith) high))) in
    let point = h sorted in
    elim (cases_lt has.0 i) [
      | inl lt ↦ less_apart text text (rw has.2 at (point.0 has.0 text (omega arith) lt)) refl
      | inr ge ↦
          let greater : slice_cmp nat_cmp text text ≡ Greater = rw has.2 at (point.1 has.0 text ge has.1) in
          let equal = equal_to_itself text in cc
    ]

pub Contains-halves : {X : Type 0} (xs : List X) (n : ℕ) (x : X) → (Contains (take n xs) x → ⊥) → (Contains (drop n xs) x → ⊥) → Contains xs x → ⊥
Contains-halves xs n x front back has =
    elim (Contains-append_cases (take n xs) (drop n xs) x (rw take-append-drop has)) [ inl h ↦ front h | inr h ↦ back h ]
