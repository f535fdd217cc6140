-- The order in which a system's moves are sorted is the one in which moves compare.
use Rattle.std.proofs.Common.{drop_of_length-le, ◌≡◌, ℕ, ◌+◌, ◌<◌, ◌≤◌, Bool, List, [], ◌++◌, length, take, drop, Option, get_or, true, false, refl, sym, ◌∙◌, ap, subst, arith, inl, inr, ◌⊎◌}
use Rattle.std.specs.List.{IsAllAdjacentAnswer}
use Rattle.std.specs.List.Sorted.{IsSorted, IsPermutation}
use Rattle.std.specs.Ordering.{is_le, is_lt, is_some_and, partial_le, nat_cmp, ordering_reverse, ordering_then}
use Rattle.std.specs.Cmp.{nat_cmp_is}
use Rattle.std.specs.declared.cmp.Ordering.{Ordering}
use Rattle.std.specs.declared.cmp.Ordering.TheVariants.{Less, Equal, Greater}
use Rattle.std.proofs.lemmas.Bool.{cases_order, false≢true}
use Rattle.std.proofs.Math.Seq.{take-length}
use Rattle.std.proofs.lemmas.List.{append-nil}
use Rattle.std.proofs.lemmas.List.Sorted.{sorted_far, ranks_by, length_permutation}
use Rattle.std.proofs.lemmas.Map.Keys.{ge_from_not_lt}
use Rattle.lts_base.specs.contracts.action.MoveOrd.TheImpl.{cmp-value}
use Rattle.lts_base.specs.contracts.action.MovePartialOrd.TheImpl.{partial_cmp-value}
use Rattle.lts_base.specs.contracts.action.MoveOrd.TheImpl.Laws.{total-law, matches_partial_cmp-law}
use Rattle.lts_base.specs.declared.action.Act.{Act}
use Rattle.lts_base.specs.declared.action.Act.TheVariants.{Tau, Label}
use Rattle.lts_base.specs.declared.action.Move.{Move}
use Rattle.lts_base.specs.System.{act_place, IsMoveAtMost, AreSorted}

-- a smaller number compares as less
cmp_less : (p q : ℕ) → p < q → nat_cmp p q ≡ Less
cmp_less p q h = sym (nat_cmp_is p q Less h)

-- a number compares as equal to itself
cmp_equal : (p q : ℕ) → p ≡ q → nat_cmp p q ≡ Equal
cmp_equal p q h = sym (nat_cmp_is p q Equal h)

-- a larger number compares as greater
cmp_greater : (p q : ℕ) → q < p → nat_cmp p q ≡ Greater
cmp_greater p q h = sym (nat_cmp_is p q Greater h)

-- numbers compare as the next ones do
cmp_next : (p q : ℕ) → nat_cmp (p + 1) (q + 1) ≡ nat_cmp p q
cmp_next p q = go (cases_order p q)
  where
    go : (p ≡ q) ⊎ ((p < q) ⊎ (q < p)) → nat_cmp (p + 1) (q + 1) ≡ nat_cmp p q
    go (inl e) = cmp_equal (p + 1) (q + 1) (omega arith) ∙ sym (cmp_equal p q e)
    go (inr (inl lt)) = cmp_less (p + 1) (q + 1) (omega arith) ∙ sym (cmp_less p q lt)
    go (inr (inr gt)) = cmp_greater (p + 1) (q + 1) (omega arith) ∙ sym (cmp_greater p q gt)

-- moves compare by the states that they leave, then by the places of what they carry, then by the states that they lead to
by_places : (x y : Move) → cmp-value.it x y ≡ ordering_then (nat_cmp x.from y.from) (ordering_then (nat_cmp (act_place x.act) (act_place y.act)) (nat_cmp x.to y.to))
by_places x y = go x.act y.act
  where
    go : (a b : Act) → cmp-value.it (record { from = x.from; act = a; to = x.to }) (record { from = y.from; act = b; to = y.to }) ≡
        ordering_then (nat_cmp x.from y.from) (ordering_then (nat_cmp (act_place a) (act_place b)) (nat_cmp x.to y.to))
    go Tau Tau = refl
    go Tau (Label b) = ap (λ (o : Ordering). ordering_then (nat_cmp x.from y.from) (ordering_then o (nat_cmp x.to y.to))) (sym (cmp_less 0 (b + 1) (omega arith)))
    go (Label a) Tau = ap (λ (o : Ordering). ordering_then (nat_cmp x.from y.from) (ordering_then o (nat_cmp x.to y.to))) (sym (cmp_greater (a + 1) 0 (omega arith)))
    go (Label a) (Label b) = ap (λ (o : Ordering). ordering_then (nat_cmp x.from y.from) (ordering_then o (nat_cmp x.to y.to))) (sym (cmp_next a b))

-- what isn't less by two orders one after the other, told by the first
not_less_first : (p q : ℕ) (o : Ordering) → is_lt (ordering_then (nat_cmp q p) o) ≡ false → (p < q) ⊎ ((p ≡ q) × (is_lt o ≡ false))
not_less_first p q o h = go (cases_order p q)
  where
    go : (p ≡ q) ⊎ ((p < q) ⊎ (q < p)) → (p < q) ⊎ ((p ≡ q) × (is_lt o ≡ false))
    go (inl e) = inr (e, subst (λ (z : Ordering). is_lt (ordering_then z o) ≡ false) (cmp_equal q p (sym e)) h)
    go (inr (inl lt)) = inl lt
    go (inr (inr gt)) = absurd (false≢true (sym (subst (λ (z : Ordering). is_lt (ordering_then z o) ≡ false) (cmp_less q p gt) h)))

-- and back
not_less_then : (p q : ℕ) (o : Ordering) → (p < q) ⊎ ((p ≡ q) × (is_lt o ≡ false)) → is_lt (ordering_then (nat_cmp q p) o) ≡ false
not_less_then p q o (inl lt) = subst (λ (z : Ordering). is_lt (ordering_then z o) ≡ false) (sym (cmp_greater q p lt)) refl
not_less_then p q o (inr (e, h)) = subst (λ (z : Ordering). is_lt (ordering_then z o) ≡ false) (sym (cmp_equal q p (sym e))) h

-- a number that isn't smaller doesn't compare as less
not_less : (p q : ℕ) → p ≤ q → is_lt (nat_cmp q p) ≡ false
not_less p q le = go (cases_order p q)
  where
    go : (p ≡ q) ⊎ ((p < q) ⊎ (q < p)) → is_lt (nat_cmp q p) ≡ false
    go (inl e) = ap is_lt (cmp_equal q p (sym e))
    go (inr (inl lt)) = ap is_lt (cmp_greater q p lt)
    go (inr (inr gt)) = absurd (omega (arith, le, gt))

-- where the second move isn't less, the first is the same or comes before it
at_most_from : (x y : Move) → is_lt (cmp-value.it y x) ≡ false → IsMoveAtMost x y
at_most_from x y h =
    let by : is_lt (ordering_then (nat_cmp y.from x.from) (ordering_then (nat_cmp (act_place y.act) (act_place x.act)) (nat_cmp y.to x.to))) ≡ false = subst (λ (o : Ordering). is_lt o ≡ false) (by_places y x) h in
    elim (not_less_first x.from y.from (ordering_then (nat_cmp (act_place y.act) (act_place x.act)) (nat_cmp y.to x.to)) by) [
      | inl lt ↦ inl lt
      | inr one ↦
          inr (
            one.0,
            elim (not_less_first (act_place x.act) (act_place y.act) (nat_cmp y.to x.to) one.1) [
              | inl lt ↦ inl lt
              | inr two ↦ inr (two.0, ge_from_not_lt y.to x.to two.1)
            ],
          )
    ]

-- where the first move is the same or comes before the second, the second isn't less
at_most_to : (x y : Move) → IsMoveAtMost x y → is_lt (cmp-value.it y x) ≡ false
at_most_to x y h =
    let acts : Ordering = ordering_then (nat_cmp (act_place y.act) (act_place x.act)) (nat_cmp y.to x.to) in
    let by : is_lt (ordering_then (nat_cmp y.from x.from) acts) ≡ false =
    not_less_then x.from y.from acts (elim h [
      | inl lt ↦ inl lt
      | inr one ↦
          inr (
            one.0,
            not_less_then (act_place x.act) (act_place y.act) (nat_cmp y.to x.to) (elim one.1 [
              | inl lt ↦ inl lt
              | inr two ↦ inr (two.0, not_less x.to y.to two.1)
            ]),
          )
    ]) in
    subst (λ (o : Ordering). is_lt o ≡ false) (sym (by_places y x)) by

-- moves that a sort has put in order are sorted
pub AreSorted-from_sort : (ms : List Move) → IsSorted cmp-value.it ms → AreSorted ms
AreSorted-from_sort ms sorted = λ j k d lt below.
    at_most_from (get_or ms j d) (get_or ms k d) (sorted_far (λ x y. is_lt (cmp-value.it x y)) (ranks_by total-law (λ (m : Move). m)) ms sorted j k d (omega arith) below)

-- sorted moves are in the order in which moves compare
pub AreSorted-as_sort : (ms : List Move) → AreSorted ms → IsSorted cmp-value.it ms
AreSorted-as_sort ms sorted = λ k d low below. at_most_to (get_or ms k d) (get_or ms (k + 1) d) (sorted k (k + 1) d (omega arith) below)

-- where the first move compares as less or equal, it is the same or comes before the second
pub at_most_tested : (x y : Move) → is_le (cmp-value.it x y) ≡ true → IsMoveAtMost x y
at_most_tested x y le = at_most_from x y (ap is_lt (total-law.antisymm y x) ∙ back (cmp-value.it x y) le)
  where
    back : (o : Ordering) → is_le o ≡ true → is_lt (ordering_reverse o) ≡ false
    back Less e = refl
    back Equal e = refl
    back Greater e = absurd (false≢true e)

-- where a test of each element and the next said yes, each was answered so
pub each_adjacent : {X : Type 0} (E : X → X → Bool → Type 0) (xs : List X) (r : Bool) → r ≡ true → IsAllAdjacentAnswer E xs r → (k : ℕ) (d : X) → k + 1 < length xs → E (get_or xs k d) (get_or xs (k + 1) d) true
each_adjacent E xs true is answer = answer
each_adjacent E xs false is answer = absurd (false≢true is)

-- moves of which each compares as less or equal to the next are sorted
pub AreSorted-tested : (ms : List Move) → ((k : ℕ) (d : Move) → k + 1 < length ms → is_le (cmp-value.it (get_or ms k d) (get_or ms (k + 1) d)) ≡ true) → AreSorted ms
AreSorted-tested ms each = AreSorted-from_sort ms (λ k d low below. at_most_to (get_or ms k d) (get_or ms (k + 1) d) (at_most_tested (get_or ms k d) (get_or ms (k + 1) d) (each k d below)))

-- moves compare in part as they compare
pub partly_at_most : (x y : Move) → partial_le partial_cmp-value.it x y ≡ true → is_le (cmp-value.it x y) ≡ true
partly_at_most x y le = subst (λ (o : Option Ordering). is_some_and is_le o ≡ true) (matches_partial_cmp-law x y) le

-- what was lent is there as it was left
pub lent_back : {X : Type 0} (old new : List X) (len : ℕ) → len ≡ length old → IsPermutation old new → take len (new ++ drop (length new) old) ≡ new
lent_back old new len is same =
    let size : length new ≡ length old = length_permutation old new same in
    let none : drop (length new) old ≡ [] = drop_of_length-le old (omega (arith, size)) in
    let e : len ≡ length new = omega (arith, is, size) in
    rw (none, e, append-nil) (take-length new)
