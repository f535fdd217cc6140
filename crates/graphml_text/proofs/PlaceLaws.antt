-- Numbers in ids tell places.
use Rattle.std.proofs.Common.{◌≡◌, ◌∙◌, ℕ, zero, suc, nat_le, replicate, ◌+◌, ◌*◌, ◌-◌, ◌<◌, ◌≤◌, Bool, true, false, cond, ◌==◌, nat_lt, List, [], ◌∷◌, ◌++◌, length, take, get_or, Option, Some, None, inl, inr, refl, sym, ap, ap₂, subst, arith}
use Rattle.std.specs.Prelude.{set}
use Rattle.std.specs.Char.{is_ascii_digit}
use Rattle.std.specs.List.{position_or_len}
use Rattle.std.specs.Str.{bytes_eq}
use Rattle.std.proofs.lemmas.Bool.{cases_Bool, cases_eq, eqb-true, and_parts, leb-true, ltb-true}
use Rattle.std.proofs.lemmas.List.{get_or-set_same, get_or-set_other, take_more}
use Rattle.std.proofs.Math.Seq.{take-length}
use Rattle.graphml_text.specs.Document.{place_of}
use Rattle.graphml_text.specs.Places.{with_digit, number_in, number_of, ArePlaces}

-- the number of digits, of which those before are still to be read
abbrev pub number_onto : List ℕ → Option ℕ → Option ℕ
number_onto [] o = o
number_onto (digit ∷ digits) o = with_digit digit (number_onto digits o)

pub onto_last : (before : List ℕ) (last : ℕ) (o : Option ℕ) → number_onto (before ++ last ∷ []) o ≡ number_onto before (with_digit last o)
onto_last [] last o = refl
onto_last (digit ∷ before) last o = ap (with_digit digit) (onto_last before last o)

pub onto_none : (before : List ℕ) → number_onto before None ≡ None
onto_none [] = refl
onto_none (digit ∷ before) = rw (onto_none before) refl

pub onto_start : (digits : List ℕ) → number_onto digits (Some 0) ≡ number_in digits
onto_start [] = refl
onto_start (digit ∷ digits) = ap (with_digit digit) (onto_start digits)

onto_split : (rest : List ℕ) (o : Option ℕ) → 1 ≤ length rest → number_onto rest o ≡ number_onto (take (length rest - 1) rest) (with_digit (get_or rest (length rest - 1) 0) o)
onto_split rest o some =
    let count : length rest - 1 + 1 ≡ length rest = omega (arith, some) in
    let parts : take (length rest - 1 + 1) rest ≡ take (length rest - 1) rest ++ get_or rest (length rest - 1) 0 ∷ [] = take_more rest (length rest - 1) 0 (omega (arith, some)) in
    let whole : rest ≡ take (length rest - 1) rest ++ get_or rest (length rest - 1) 0 ∷ [] = sym (take-length rest) ∙ ap (λ n. take n rest) (sym count) ∙ parts in
    ap (λ (r : List ℕ). number_onto r o) whole ∙ onto_last (take (length rest - 1) rest) (get_or rest (length rest - 1) 0) o

pub digits_more : (rest digits : List ℕ) (n m : ℕ) → 1 ≤ length rest → number_onto rest (Some n) ≡ number_in digits → with_digit (get_or rest (length rest - 1) 0) (Some n) ≡ Some m → number_onto (take (length rest - 1) rest) (Some m) ≡ number_in digits
digits_more rest digits n m some so_far is = ap (number_onto (take (length rest - 1) rest)) (sym is) ∙ sym (onto_split rest (Some n) some) ∙ so_far

pub digits_stop : (rest digits : List ℕ) (n : ℕ) → 1 ≤ length rest → number_onto rest (Some n) ≡ number_in digits → with_digit (get_or rest (length rest - 1) 0) (Some n) ≡ None → None ≡ number_in digits
digits_stop rest digits n some so_far is = sym (onto_none (take (length rest - 1) rest)) ∙ ap (number_onto (take (length rest - 1) rest)) (sym is) ∙ sym (onto_split rest (Some n) some) ∙ so_far

-- ---- other digits have another number

abbrev Weighs : ℕ → Option ℕ → ℕ → Type 0
Weighs digit o n = (m : ℕ) × (o ≡ Some m) × (is_ascii_digit digit ≡ true) × (n ≡ m * 11 + (digit - 47))

digit_weighs : (digit : ℕ) (o : Option ℕ) (n : ℕ) → with_digit digit o ≡ Some n → Weighs digit o n
digit_weighs digit None n e = absurd cc
digit_weighs digit (Some m) n e = elim (cases_Bool (is_ascii_digit digit)) [
  | inr other ↦ absurd (none_some (rw other at e))
  | inl is ↦ elim (cases_Bool (nat_lt m 14_641)) [
    | inr large ↦ absurd (none_some (rw (is, large) at e))
    | inl small ↦ let same : some_of (m * 11 + (digit - 47)) ≡ some_of n = rw (is, small) at e in (m, refl, is, cc)
  ]
]
  where
    some_of : ℕ → Option ℕ
    some_of k = Some k

    none_some : ◌≡◌ {A = Option ℕ} None (Some n) → ⊥
    none_some h = absurd cc

digit_bounds : (digit : ℕ) → is_ascii_digit digit ≡ true → (48 ≤ digit) × (digit ≤ 57)
digit_bounds digit is = let (low, high) = and_parts (nat_le 48 digit) (nat_le digit 57) is in (leb-true 48 digit low, leb-true digit 57 high)

number_apart : (xs ys : List ℕ) (n : ℕ) → number_in xs ≡ Some n → number_in ys ≡ Some n → xs ≡ ys
number_apart [] [] n one other = refl
number_apart [] (c ∷ ys) n one other =
    let zero : 0 ≡ n = cc in
    let (m, _, digit, is) = digit_weighs c (number_in ys) n other in
    let (low, high) = digit_bounds c digit in
    absurd (omega (arith, zero, is, low))
number_apart (b ∷ xs) [] n one other =
    let zero : 0 ≡ n = cc in
    let (m, _, digit, is) = digit_weighs b (number_in xs) n one in
    let (low, high) = digit_bounds b digit in
    absurd (omega (arith, zero, is, low))
number_apart (b ∷ xs) (c ∷ ys) n one other =
    let (m, some_m, digit_b, is_b) = digit_weighs b (number_in xs) n one in
    let (k, some_k, digit_c, is_c) = digit_weighs c (number_in ys) n other in
    let (low_b, high_b) = digit_bounds b digit_b in
    let (low_c, high_c) = digit_bounds c digit_c in
    let same : m ≡ k = omega (arith, is_b, is_c, low_b, high_b, low_c, high_c) in
    let front : b ≡ c = omega (arith, is_b, is_c, low_b, high_b, low_c, high_c, same) in
    ap₂ {A = ℕ} {B = List ℕ} {C = List ℕ} (λ x l. x ∷ l) front (number_apart xs ys m some_m (rw same some_k))

id_apart : (first : ℕ) (x y : List ℕ) (n : ℕ) → number_of first x ≡ Some n → number_of first y ≡ Some n → x ≡ y
id_apart first [] y n one other = absurd cc
id_apart first (b ∷ x) [] n one other = absurd cc
id_apart first (b ∷ x) (c ∷ y) n one other =
    let (front_b, number_b) = begins b x one in
    let (front_c, number_c) = begins c y other in
    ap₂ {A = ℕ} {B = List ℕ} {C = List ℕ} (λ h l. h ∷ l) (front_b ∙ sym front_c) (number_apart x y n number_b number_c)
  where
    begins : (b : ℕ) (x : List ℕ) → number_of first (b ∷ x) ≡ Some n → (b ≡ first) × (number_in x ≡ Some n)
    begins b x e = elim (cases_Bool (b == first)) [
      | inl same ↦ (eqb-true b first same, rw same at e)
      | inr not ↦ let no : ◌≡◌ {A = Option ℕ} None (Some n) = rw not at e in absurd cc
    ]

-- ---- places

pub place_within : (ids : List (List ℕ)) (id : List ℕ) (k : ℕ) → place_of ids id ≡ Some k → k < length ids
place_within ids id k e = go (nat_lt (position_or_len (bytes_eq id) ids) (length ids)) refl e
  where
    go : (b : Bool) → nat_lt (position_or_len (bytes_eq id) ids) (length ids) ≡ b → cond b (Some (position_or_len (bytes_eq id) ids)) None ≡ Some k → k < length ids
    go true below is = let same : position_or_len (bytes_eq id) ids ≡ k = cc in subst (λ (n : ℕ). n < length ids) same (ltb-true (position_or_len (bytes_eq id) ids) (length ids) below)
    go false below is = absurd cc

pub numbered_is : (ids : List (List ℕ)) (first : ℕ) (places id : List ℕ) (number place : ℕ) → ArePlaces ids first places → number_of first id ≡ Some number → get_or places number 0 ≡ place + 1 → place_of ids id ≡ Some place
numbered_is ids first places id number place are is at =
    let (other, same, found) = are number place at in
    subst (λ (x : List ℕ). place_of ids x ≡ Some place) (id_apart first other id number same is) found

pub places_set : (ids : List (List ℕ)) (first : ℕ) (places id : List ℕ) (number place : ℕ) → number < length places → ArePlaces ids first places → number_of first id ≡ Some number → place_of ids id ≡ Some place → ArePlaces ids first (set places number (place + 1))
places_set ids first places id number place within are is found j k at = elim (cases_eq j number) [
  | inl same ↦
      let here : place + 1 ≡ k + 1 = sym (get_or-set_same places number (place + 1) 0 within) ∙ ap (λ i. get_or (set places number (place + 1)) i 0) (sym same) ∙ at in
      let equal : place ≡ k = omega (arith, here) in
      (id, rw same is, found ∙ ap {A = ℕ} {B = Option ℕ} (λ p. Some p) equal)
  | inr other ↦ are j k (sym (get_or-set_other places number j (place + 1) 0 other) ∙ at)
]

pub places_none : (ids : List (List ℕ)) (first n : ℕ) → ArePlaces ids first (replicate n 0)
places_none ids first n j k at = absurd (omega (arith, zeros n j, at))
  where
    zeros : (n j : ℕ) → get_or {A = ℕ} (replicate n 0) j 0 ≡ 0
    zeros zero j = refl
    zeros (suc n) zero = refl
    zeros (suc n) (suc j) = zeros n j

pub numbered_before : (ids : List (List ℕ)) (first : ℕ) (places id : List ℕ) (number next : ℕ) → ArePlaces ids first places → number_of first id ≡ Some number → next ≡ get_or places number 0 → (next ≡ 0 → ⊥) → place_of ids id ≡ Some (next - 1)
numbered_before ids first places id number next are is at some = numbered_is ids first places id number (next - 1) are is (sym at ∙ back next some)
  where
    back : (n : ℕ) → (n ≡ 0 → ⊥) → n ≡ n - 1 + 1
    back zero none = absurd (none refl)
    back (suc n) none = omega arith
