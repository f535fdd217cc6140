-- Laws on lists that the standard library lacks.
use Rattle.std.proofs.Common.{◌≡◌, ℕ, zero, suc, ◌+◌, ◌<◌, ◌≤◌, List, [], ◌∷◌, ◌++◌, length, get_or, ◌⊎◌, inl, inr, All, Contains, refl, sym, ap, arith, nat_cmp}
use Rattle.std.proofs.lemmas.List.{append-nil, append_assoc}
use Rattle.std.proofs.lemmas.List.Kept.{AllPairs-from_increasing}
use Rattle.std.proofs.lemmas.Map.Keys.{sorted_from_strictly_increasing, sorted_tail, IsStrictlyIncreasing-from_sorted}
use Rattle.std.proofs.lemmas.List.{get_or_append_left, get_or_push, length_push, get_or_default}
use Rattle.std.proofs.lemmas.Bool.{cases_lt}
use Rattle.std.specs.List.Sorted.{IsStrictlyIncreasing}

-- what holds of the empty list, and of a list with one more item at its end where it holds of the list, holds of each list
pub snoc_induction : {X : Type 0} (P : List X → Type 0) → P [] → ((xs : List X) (x : X) → P xs → P (xs ++ x ∷ [])) → (xs : List X) → P xs
snoc_induction {X} P none push xs = go [] xs none
  where
    go : (front back : List X) → P front → P (front ++ back)
    go front [] h = rw append-nil h
    go front (x ∷ back) h = rw append_assoc at (go (front ++ x ∷ []) back (push front x h))

-- a list is empty or has a last item
pub snoc_cases : {X : Type 0} (xs : List X) → (xs ≡ []) ⊎ ((front : List X) × (last : X) × (xs ≡ front ++ last ∷ []))
snoc_cases [] = inl refl
snoc_cases {X = X} (y ∷ ys) = elim (snoc_cases ys) [
  | inl none ↦ inr ([], y, ap {A = List X} {B = List X} (λ z. y ∷ z) none)
  | inr some ↦ inr (y ∷ some.0, some.1, ap {A = List X} {B = List X} (λ z. y ∷ z) some.2)
]

-- a member of a list is its first item or one of the others
pub Contains-first_cases : {X : Type 0} (x : X) (xs : List X) (q : X) → Contains (x ∷ xs) q → (x ≡ q) ⊎ Contains xs q
Contains-first_cases x xs q (zero, below, at) = inl at
Contains-first_cases x xs q (suc k, below, at) = inr (k, omega (arith, below), at)

pub Contains-rest : {X : Type 0} (x : X) (xs : List X) (q : X) → Contains xs q → Contains (x ∷ xs) q
Contains-rest x xs q (k, below, at) = (suc k, omega (arith, below), at)

pub Contains-first : {X : Type 0} (x : X) (xs : List X) → Contains (x ∷ xs) x
Contains-first x xs = (zero, omega arith, refl)

pub Contains-none : {X : Type 0} (q : X) → Contains [] q → ⊥
Contains-none q (k, below, at) = omega (arith, below)

pub IsStrictlyIncreasing-rest : (x : ℕ) (xs : List ℕ) → IsStrictlyIncreasing (x ∷ xs) → IsStrictlyIncreasing xs
IsStrictlyIncreasing-rest x xs rising = IsStrictlyIncreasing-from_sorted xs (sorted_tail nat_cmp x xs (sorted_from_strictly_increasing (x ∷ xs) rising))

-- the first of ascending numbers is below each of the others
pub first_below : (x : ℕ) (xs : List ℕ) (q : ℕ) → IsStrictlyIncreasing (x ∷ xs) → Contains xs q → x < q
first_below x xs q rising (k, below, at) =
    let under : x < get_or xs k q = AllPairs-from_increasing (x ∷ xs) rising zero (suc k) q (omega arith) (omega (arith, below)) in
    rw at at under

-- ascending lists with the same members are equal
pub ascending_unique : (xs ys : List ℕ) → IsStrictlyIncreasing xs → IsStrictlyIncreasing ys → ((q : ℕ) → Contains xs q → Contains ys q) → ((q : ℕ) → Contains ys q → Contains xs q) → xs ≡ ys
ascending_unique [] [] up_x up_y into back = refl
ascending_unique [] (y ∷ ys) up_x up_y into back = absurd (Contains-none y (back y (Contains-first y ys)))
ascending_unique (x ∷ xs) [] up_x up_y into back = absurd (Contains-none x (into x (Contains-first x xs)))
ascending_unique (x ∷ xs) (y ∷ ys) up_x up_y into back =
    let same : x ≡ y = heads (Contains-first_cases y ys x (into x (Contains-first x xs))) (Contains-first_cases x xs y (back y (Contains-first y ys))) in
    let rest : xs ≡ ys = ascending_unique xs ys (IsStrictlyIncreasing-rest x xs up_x) (IsStrictlyIncreasing-rest y ys up_y)
    (λ q inside. elim (Contains-first_cases y ys q (into q (Contains-rest x xs q inside))) [
      | inl first ↦ let under : x < q = first_below x xs q up_x inside in absurd (omega (arith, under, first, same))
      | inr other ↦ other
    ])
    (λ q inside. elim (Contains-first_cases x xs q (back q (Contains-rest y ys q inside))) [
      | inl first ↦ let under : y < q = first_below y ys q up_y inside in absurd (omega (arith, under, first, same))
      | inr other ↦ other
    ]) in
    cc
  where
    heads : (y ≡ x) ⊎ Contains ys x → (x ≡ y) ⊎ Contains xs y → x ≡ y
    heads (inl first) other = sym first
    heads (inr inside) (inl first) = first
    heads (inr inside) (inr outside) =
        let under : y < x = first_below y ys x up_y inside in
        let over : x < y = first_below x xs y up_x outside in
        absurd (omega (arith, under, over))

-- ascending numbers with one more above all of them ascend
pub IsStrictlyIncreasing-push : (xs : List ℕ) (x : ℕ) → IsStrictlyIncreasing xs → All (λ y. y < x) xs → IsStrictlyIncreasing (xs ++ x ∷ [])
IsStrictlyIncreasing-push xs x rising under k below =
    elim (cases_lt (k + 1) (length xs)) [
      | inl inside ↦
          rw (get_or_append_left xs (x ∷ []) 0 k (omega (arith, inside)), get_or_append_left xs (x ∷ []) 0 (k + 1) inside) (rising k inside)
      | inr past ↦
          let count : length (xs ++ x ∷ []) ≡ length xs + 1 = length_push xs x in
          let last : length xs ≡ k + 1 = omega (arith, past, below, count) in
          let low : k < length xs = omega (arith, last) in
          rw (get_or_append_left xs (x ∷ []) 0 k low, get_or_push xs x 0 (k + 1) last) (under k 0 low)
    ]

-- a loop that looks for something and finds nothing: one more item without it
pub below_next : {X : Type 0} (P : X → Type 0) (xs : List X) (i : ℕ) (e : X) → i < length xs → ((k : ℕ) (d : X) → k < i → P (get_or xs k d)) → P (get_or xs i e) → (k : ℕ) (d : X) → k < i + 1 → P (get_or xs k d)
below_next P xs i e inside before here k d below =
    elim (cases_lt k i) [
      | inl earlier ↦ before k d earlier
      | inr late ↦
          let same : k ≡ i = omega (arith, late, below) in
          rw (same, get_or_default xs i d e inside) here
    ]

-- a loop that looks for something and finds nothing: there is nothing
pub none_contained : {X : Type 0} (P : X → Type 0) (xs : List X) (n : ℕ) → length xs ≤ n → ((k : ℕ) (d : X) → k < n → P (get_or xs k d)) → (x : X) → Contains xs x → P x
none_contained P xs n over before x (k, below, at) = rw at at (before k x (omega (arith, below, over)))
