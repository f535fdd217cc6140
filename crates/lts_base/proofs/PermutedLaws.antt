-- A list in order is the only one in order with its elements.
use Rattle.std.proofs.Common.{◌≡◌, ℕ, zero, suc, ◌+◌, ◌<◌, List, [], ◌∷◌, get_or, Contains, Bool, true, false, cond, refl, sym, ◌∙◌, ap, subst, arith, inl, inr, ◌⊎◌}
use Rattle.std.specs.List.{sum_by}
use Rattle.std.specs.List.Sorted.{IsPermutation, IsSorted}
use Rattle.std.specs.Ordering.{is_eq, is_lt, nat_cmp, ordering_reverse, ordering_then}
use Rattle.std.specs.Cmp.{IsTotalOrder}
use Rattle.std.specs.declared.cmp.Ordering.{Ordering}
use Rattle.std.specs.declared.cmp.Ordering.TheVariants.{Less, Equal, Greater}
use Rattle.std.proofs.lemmas.Bool.{cases_Bool}
use Rattle.std.proofs.lemmas.Cmp.{tied_itself}
use Rattle.std.proofs.lemmas.List.Sums.{sum_by-cons}
use Rattle.std.proofs.lemmas.List.Sorted.{sorted_far, ranks_by, sum_by-IsPermutation}
use Rattle.std.proofs.lemmas.Map.Lookups.{exact_unsigned}
use Rattle.lts_base.specs.contracts.action.MoveOrd.TheImpl.{cmp-value}
use Rattle.lts_base.specs.contracts.action.MoveOrd.TheImpl.Laws.{total-law}
use Rattle.lts_base.specs.declared.action.Act.{Act}
use Rattle.lts_base.specs.declared.action.Act.TheVariants.{Tau, Label}
use Rattle.lts_base.specs.declared.action.Move.{Move}
use Rattle.lts_base.proofs.ListLaws.{Contains-first_cases, Contains-first, Contains-rest, Contains-none}
use Rattle.lts_base.specs.System.{AreSorted}
use Rattle.lts_base.proofs.LabelLaws.{equal_from_is_eq}
use Rattle.lts_base.proofs.SortedLaws.{AreSorted-as_sort}

-- lists with the same sums have them without a first element that they share
alike_rest : {X : Type 0} (x : X) (xs ys : List X) → ((f : X → ℕ) → sum_by f (x ∷ xs) ≡ sum_by f (x ∷ ys)) → (f : X → ℕ) → sum_by f xs ≡ sum_by f ys
alike_rest x xs ys alike f = omega (arith, alike f, sum_by-cons f x xs, sum_by-cons f x ys)

-- where some are counted, one passes
one_counted : {X : Type 0} (p : X → Bool) (xs : List X) → 0 < sum_by (λ z. cond (p z) 1 0) xs → (x : X) × Contains xs x × (p x ≡ true)
one_counted p [] some = absurd (omega (arith, some))
one_counted {X = X} p (x ∷ xs) some =
    elim (cases_Bool (p x)) [
      | inl here ↦ (x, Contains-first x xs, here)
      | inr none ↦
          let whole : sum_by (λ (z : X). cond (p z) 1 0) (x ∷ xs) ≡ cond (p x) 1 0 + sum_by (λ (z : X). cond (p z) 1 0) xs = sum_by-cons (λ (z : X). cond (p z) 1 0) x xs in
          let first : ◌≡◌ {A = ℕ} (cond (p x) 1 0) 0 = rw none refl in
          let (y, inside, passes) = one_counted p xs (omega (arith, some, whole, first)) in
          (y, Contains-rest x xs y inside, passes)
    ]

module _ {X : Type 0} (C : X → X → Ordering) (total : IsTotalOrder C) (exact : (x y : X) → C x y ≡ Equal → x ≡ y) where
  -- the first of a list is an element of each list with the same sums
  first_inside : (y : X) (ys xs : List X) → ((f : X → ℕ) → sum_by f xs ≡ sum_by f (y ∷ ys)) → Contains xs y
  first_inside y ys xs alike =
      let f : X → ℕ = λ z. cond (is_eq (C y z)) 1 0 in
      let own : ◌≡◌ {A = ℕ} (cond (is_eq (C y y)) 1 0) 1 = rw (tied_itself total y) refl in
      let whole : sum_by f (y ∷ ys) ≡ cond (is_eq (C y y)) 1 0 + sum_by f ys = sum_by-cons f y ys in
      let (z, inside, same) = one_counted (λ z. is_eq (C y z)) xs (omega (arith, whole, own, alike f)) in
      subst (Contains xs) (sym (exact y z (equal_from_is_eq (C y z) same))) inside

  -- no element of a list in order is less than the first
  first_least : (x : X) (xs : List X) (q : X) → IsSorted C (x ∷ xs) → Contains xs q → is_lt (C q x) ≡ false
  first_least x xs q sorted (k, below, at) =
      let far : is_lt (C (get_or xs k q) x) ≡ false = sorted_far (λ a b. is_lt (C a b)) (ranks_by total (λ (z : X). z)) (x ∷ xs) sorted zero (suc k) q (omega arith) (omega (arith, below)) in
      rw at at far

  -- elements of which neither is less are equal
  neither : (x y : X) → is_lt (C x y) ≡ false → is_lt (C y x) ≡ false → x ≡ y
  neither x y one other = go (C x y) refl
    where
      go : (o : Ordering) → C x y ≡ o → x ≡ y
      go Less e = absurd (let f : is_lt Less ≡ false = sym (ap is_lt e) ∙ one in cc f)
      go Equal e = exact x y e
      go Greater e =
          let back : C y x ≡ Less = total.antisymm y x ∙ ap ordering_reverse e in
          absurd (let f : is_lt Less ≡ false = sym (ap is_lt back) ∙ other in cc f)

  -- lists in order with the same first elements among them begin alike
  same_first : (x y : X) (xs ys : List X) → IsSorted C (x ∷ xs) → IsSorted C (y ∷ ys) → (y ≡ x) ⊎ Contains ys x → (x ≡ y) ⊎ Contains xs y → x ≡ y
  same_first x y xs ys up_x up_y (inl first) other = sym first
  same_first x y xs ys up_x up_y (inr inside) (inl first) = first
  same_first x y xs ys up_x up_y (inr inside) (inr outside) = neither x y (first_least y ys x up_y inside) (first_least x xs y up_x outside)

  -- lists in order with the same sums are equal
  alike_same : (xs ys : List X) → IsSorted C xs → IsSorted C ys → ((f : X → ℕ) → sum_by f xs ≡ sum_by f ys) → xs ≡ ys
  alike_same [] [] up_x up_y alike = refl
  alike_same [] (y ∷ ys) up_x up_y alike = absurd (Contains-none y (first_inside y ys [] alike))
  alike_same (x ∷ xs) [] up_x up_y alike = absurd (Contains-none x (first_inside x xs [] (λ f. sym (alike f))))
  alike_same (x ∷ xs) (y ∷ ys) up_x up_y alike =
      let same : x ≡ y = same_first x y xs ys up_x up_y
      (Contains-first_cases y ys x (first_inside x xs (y ∷ ys) (λ f. sym (alike f))))
      (Contains-first_cases x xs y (first_inside y ys (x ∷ xs) alike)) in
      let again : (f : X → ℕ) → sum_by f (x ∷ xs) ≡ sum_by f (x ∷ ys) = λ f. alike f ∙ ap (λ z. sum_by f (z ∷ ys)) (sym same) in
      let rest : xs ≡ ys = alike_same xs ys (sorted_rest x xs up_x) (sorted_rest y ys up_y) (alike_rest x xs ys again) in
      cc
    where
      sorted_rest : (z : X) (zs : List X) → IsSorted C (z ∷ zs) → IsSorted C zs
      sorted_rest z zs up k d low below =
          let up' : is_lt (C (get_or (z ∷ zs) (suc k + 1) d) (get_or zs k d)) ≡ false = up (suc k) d (omega arith) (omega (arith, below)) in
          let e : suc k + 1 ≡ suc (k + 1) = omega arith in
          subst (λ (n : ℕ). is_lt (C (get_or (z ∷ zs) n d) (get_or zs k d)) ≡ false) e up'

  -- lists in order with the same elements are equal
  pub sorted_unique : (xs ys : List X) → IsSorted C xs → IsSorted C ys → IsPermutation xs ys → xs ≡ ys
  sorted_unique xs ys up_x up_y shuffled = alike_same xs ys up_x up_y (λ f. sym (sum_by-IsPermutation f xs ys shuffled))

-- of two orders one after the other both tie
both_tie : (o p : Ordering) → ordering_then o p ≡ Equal → (o ≡ Equal) × (p ≡ Equal)
both_tie Less p e = absurd (cc e)
both_tie Equal p e = (refl, e)
both_tie Greater p e = absurd (cc e)

-- moves that the derived order ties are equal
move_exact : (x y : Move) → cmp-value.it x y ≡ Equal → x ≡ y
move_exact x y e = go x.act y.act e
  where
    F : ℕ → Act → ℕ → Move
    F p act q = record { from = p; act = act; to = q }

    go : (a b : Act) → cmp-value.it (record { from = x.from; act = a; to = x.to }) (record { from = y.from; act = b; to = y.to }) ≡ Equal → F x.from a x.to ≡ F y.from b y.to
    go Tau Tau e =
        let (from, to) = both_tie (nat_cmp x.from y.from) (nat_cmp x.to y.to) e in
        ap (λ p. F p Tau x.to) (exact_unsigned x.from y.from from) ∙ ap (λ q. F y.from Tau q) (exact_unsigned x.to y.to to)
    go Tau (Label b) e = let (from, rest) = both_tie (nat_cmp x.from y.from) Less e in absurd (cc rest)
    go (Label a) Tau e = let (from, rest) = both_tie (nat_cmp x.from y.from) Greater e in absurd (cc rest)
    go (Label a) (Label b) e =
        let (from, rest) = both_tie (nat_cmp x.from y.from) (ordering_then (nat_cmp a b) (nat_cmp x.to y.to)) e in
        let (label, to) = both_tie (nat_cmp a b) (nat_cmp x.to y.to) rest in
        ap (λ p. F p (Label a) x.to) (exact_unsigned x.from y.from from) ∙ ap (λ n. F y.from (Label n) x.to) (exact_unsigned a b label) ∙ ap (λ q. F y.from (Label b) q) (exact_unsigned x.to y.to to)

-- sorted moves are the only sorted ones with their elements
pub sorted_moves_unique : (xs ys : List Move) → AreSorted xs → AreSorted ys → IsPermutation xs ys → xs ≡ ys
sorted_moves_unique xs ys up_x up_y shuffled = sorted_unique cmp-value.it total-law move_exact xs ys (AreSorted-as_sort xs up_x) (AreSorted-as_sort ys up_y) shuffled
