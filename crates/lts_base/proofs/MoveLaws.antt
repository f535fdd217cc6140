-- Moves that stand by state: the moves of one state are a part of the list.
use Rattle.std.proofs.Common.{◌≡◌, ℕ, ◌+◌, ◌-◌, ◌<◌, ◌≤◌, List, [], ◌∷◌, ◌++◌, length, get_or, take, drop, All, Contains, Bool, true, false, refl, sym, ◌∙◌, ap, ap₂, subst, nat_lt, arith, inl, inr, ◌⊎◌}
use Rattle.std.specs.List.{filter}
use Rattle.std.specs.List.Sorted.{IsPartitionPoint, IsSorted, IsPermutation}
use Rattle.std.specs.Cmp.{IsTotalOrder}
use Rattle.std.specs.declared.cmp.Ordering.{Ordering}
use Rattle.std.specs.declared.cmp.Ordering.TheVariants.{Less}
use Rattle.std.specs.Ordering.{is_lt}
use Rattle.std.proofs.lemmas.List.Sorted.{sorted_far, ranks_by, All-permutation}
use Rattle.std.proofs.lemmas.List.{take-append-drop, length-take-le, length-take, length-drop, get_or-take, get_or-drop, append-nil, length_push, get_or_push, get_or_append_left, get_or_read}
use Rattle.std.proofs.lemmas.List.Elements.{All-nil, All-push, All-head, All-tail, filter-append, filter_passes, All-filter, All-contains, Contains-append_cases, Contains-append_left, Contains-append_right, Contains-push, Contains-push_cases, Contains-get_or, All-contains_itself}
use Rattle.std.proofs.lemmas.Bool.Decides.{nat_tests, Decides-eqb}
use Rattle.std.proofs.lemmas.Bool.{ltb-true, cases_lt, cases_Bool}
use Rattle.lts_base.specs.declared.action.Act.TheVariants.{Tau, Label}
use Rattle.lts_base.specs.declared.action.Act.{Act}
use Rattle.lts_base.specs.declared.action.Move.{Move}
use Rattle.lts_base.specs.System.{System, leaves, AreMovesOf, IsStable, GivesNoOutput, IsMoveOf}
use Rattle.lts_base.specs.Built.{AreOffsets, AreByState}

pub filter_none : {X : Type 0} (p : X → Bool) (xs : List X) → All (λ x. p x ≡ false) xs → filter p xs ≡ []
filter_none p [] all = refl
filter_none p (x ∷ xs) all =
    let here : p x ≡ false = All-head (λ y. p y ≡ false) x xs all in
    rw here (filter_none p xs (All-tail (λ y. p y ≡ false) x xs all))

pub filter_all : {X : Type 0} (p : X → Bool) (xs : List X) → All (λ x. p x ≡ true) xs → filter p xs ≡ xs
filter_all p [] all = refl
filter_all p (x ∷ xs) all =
    let here : p x ≡ true = All-head (λ y. p y ≡ true) x xs all in
    rw here (ap (λ ys. x ∷ ys) (filter_all p xs (All-tail (λ y. p y ≡ true) x xs all)))

Contains-cons_cases : {X : Type 0} (y : X) (ys : List X) (x : X) → Contains (y ∷ ys) x → (y ≡ x) ⊎ Contains ys x
Contains-cons_cases y ys x has =
    elim (Contains-append_cases (y ∷ []) ys x has) [
      | inl h ↦ inl (elim (Contains-push_cases [] y x h) [ inl none ↦ absurd (omega (arith, none.1)) | inr e ↦ e ])
      | inr h ↦ inr h
    ]

pub Contains-filter : {X : Type 0} (p : X → Bool) (xs : List X) (x : X) → Contains xs x → p x ≡ true → Contains (filter p xs) x
Contains-filter p [] x has passes = has
Contains-filter p (y ∷ ys) x has passes =
    elim (cases_Bool (p y)) [
      | inl t ↦
          rw t (elim (Contains-cons_cases y ys x has) [
            | inl e ↦ Contains-append_left (y ∷ []) (filter p ys) x (subst (λ z. Contains (y ∷ []) z) e (Contains-push [] y))
            | inr h ↦ Contains-append_right (y ∷ []) (filter p ys) x (Contains-filter p ys x h passes)
          ])
      | inr f ↦
          rw f (elim (Contains-cons_cases y ys x has) [
            | inl e ↦ absurd (let same : p y ≡ p x = ap p e in cc)
            | inr h ↦ Contains-filter p ys x h passes
          ])
    ]

pub Contains-from_filter : {X : Type 0} (p : X → Bool) (xs : List X) (x : X) → Contains (filter p xs) x → Contains xs x
Contains-from_filter p xs x has = All-contains (Contains xs) (filter p xs) x (All-filter p (Contains xs) xs (All-contains_itself xs)) has

-- what the tests say of a place, said of the numbers
pub point_from_tests : (ms : List Move) (p i : ℕ) → IsPartitionPoint (λ (m : Move). nat_lt m.from p ≡ true) (λ (m : Move). nat_lt m.from p ≡ false) ms i →
    IsPartitionPoint (λ (m : Move). m.from < p) (λ (m : Move). p ≤ m.from) ms i
point_from_tests ms p i h =
    (λ k d low high. ltb-true (get_or ms k d).from p (h.0 k d low high), λ k d low high. let no = h.1 k d low high in grind (arith, nat_tests))

move_0 : Move
move_0 = record { from = 0; act = Tau; to = 0 }

isnt : (m : Move) (p : ℕ) → (m.from < p) ⊎ (p < m.from) → leaves p m ≡ false
isnt m p h = elim h [ inl l ↦ grind (arith, nat_tests) | inr l ↦ grind (arith, nat_tests) ]

is : (m : Move) (p : ℕ) → m.from ≡ p → leaves p m ≡ true
is m p e = (Decides-eqb m.from p).1 e

-- between the first move from p on and the first one after p stand exactly the moves of p
pub leaves-between : (ms : List Move) (p i j : ℕ) → IsPartitionPoint (λ (m : Move). m.from < p) (λ (m : Move). p ≤ m.from) ms i →
    IsPartitionPoint (λ (m : Move). m.from < p + 1) (λ (m : Move). p + 1 ≤ m.from) ms j → i ≤ length ms → j ≤ length ms →
    (i ≤ j) × (take (j - i) (drop i ms) ≡ filter (leaves p) ms)
leaves-between ms p i j pi pj wi wj =
    let le : i ≤ j =
    elim (cases_lt j i) [
      | inl lt ↦ absurd (omega (arith, pi.0 j move_0 (omega arith) lt, pj.1 j move_0 (omega arith) (omega arith)))
      | inr h ↦ h
    ] in
    let rest : List Move = drop i ms in
    let here : List Move = take (j - i) rest in
    let after : List Move = drop (j - i) rest in
    let front_none : All (λ m. leaves p m ≡ false) (take i ms) =
    (λ k d below.
    let low : k < i = omega (arith, length-take-le i ms wi) in
    let e : get_or (take i ms) k d ≡ get_or ms k d = get_or-take i ms k d low in
    isnt (get_or (take i ms) k d) p (inl (rw e (pi.0 k d (omega arith) low)))) in
    let here_all : All (λ m. leaves p m ≡ true) here =
    (λ k d below.
    let low : k < j - i = omega (arith, length-take (j - i) rest) in
    let e : get_or here k d ≡ get_or ms (i + k) d = get_or-take (j - i) rest k d low ∙ get_or-drop i ms k d in
    let least : p ≤ (get_or ms (i + k) d).from = pi.1 (i + k) d (omega arith) (omega arith) in
    let most : (get_or ms (i + k) d).from < p + 1 = pj.0 (i + k) d (omega arith) (omega arith) in
    is (get_or here k d) p (rw e (omega arith))) in
    let after_none : All (λ m. leaves p m ≡ false) after =
    (λ k d below.
    let e : get_or after k d ≡ get_or ms (i + ((j - i) + k)) d = get_or-drop (j - i) rest k d ∙ get_or-drop i ms ((j - i) + k) d in
    let low : i + ((j - i) + k) < length ms = omega (arith, length-drop (j - i) rest, length-drop i ms) in
    let least : p + 1 ≤ (get_or ms (i + ((j - i) + k)) d).from = pj.1 (i + ((j - i) + k)) d (omega arith) low in
    isnt (get_or after k d) p (inr (rw e (omega arith)))) in
    let whole : take i ms ++ (here ++ after) ≡ ms = ap (λ z. take i ms ++ z) (take-append-drop (j - i) rest) ∙ take-append-drop i ms in
    let parts : filter (leaves p) ms ≡ filter (leaves p) (take i ms) ++ (filter (leaves p) here ++ filter (leaves p) after) =
    ap (filter (leaves p)) (sym whole) ∙ filter-append (leaves p) (take i ms) (here ++ after) ∙ ap (λ z. filter (leaves p) (take i ms) ++ z) (filter-append (leaves p) here after) in
    let e0 = filter_none (leaves p) (take i ms) front_none in
    let e1 = filter_all (leaves p) here here_all in
    let e2 = filter_none (leaves p) after after_none in
    (le, sym (parts ∙ rw (e0, e1, e2) (append-nil here)))

-- the moves of p, picked from all moves
pub AreMovesOf-filter : (s : System) (p : ℕ) → AreMovesOf s p (filter (leaves p) s.moves)
AreMovesOf-filter s p = record {
  each = (λ k d below.
      let passes = filter_passes (leaves p) s.moves k d below in
      ((Decides-eqb (get_or (filter (leaves p) s.moves) k d).from p).0 passes, Contains-from_filter (leaves p) s.moves _ (Contains-get_or (filter (leaves p) s.moves) k d below)));
  all = (λ m e has. Contains-filter (leaves p) s.moves m has (is m p e));
}

-- the first n offsets are right
pub record AreFirstOffsets (n : ℕ) (moves : List Move) (offsets : List ℕ) : Type 0 where
  pub long : length offsets ≡ n
  pub within : All (λ i. i ≤ length moves) offsets
  pub points : (p : ℕ) → p < n → IsPartitionPoint (λ (m : Move). m.from < p) (λ (m : Move). p ≤ m.from) moves (get_or offsets p 0)

pub first_offsets-none : (moves : List Move) → AreFirstOffsets 0 moves []
first_offsets-none moves = record { long = refl; within = All-nil (λ i. i ≤ length moves); points = λ p below. absurd (omega arith) }

pub first_offsets-push : (n : ℕ) (moves : List Move) (offsets : List ℕ) (i : ℕ) → AreFirstOffsets n moves offsets → i ≤ length moves →
    IsPartitionPoint (λ (m : Move). m.from < n) (λ (m : Move). n ≤ m.from) moves i → AreFirstOffsets (n + 1) moves (offsets ++ i ∷ [])
first_offsets-push n moves offsets i h low point = record {
  long = length_push offsets i ∙ ap (λ k. k + 1) h.long;
  within = All-push (λ j. j ≤ length moves) offsets i h.within low;
  points = λ p below.
      elim (cases_lt p n) [
        | inl lt ↦
            let P : ℕ → Type 0 = λ j. IsPartitionPoint (λ (m : Move). m.from < p) (λ (m : Move). p ≤ m.from) moves j in
            subst P (sym (get_or_append_left offsets (i ∷ []) 0 p (omega (arith, h.long)))) (h.points p lt)
        | inr ge ↦
            let e : p ≡ length offsets = omega (arith, h.long) in
            let same : p ≡ n = e ∙ h.long in
            let P : ℕ → Type 0 = λ j. IsPartitionPoint (λ (m : Move). m.from < p) (λ (m : Move). p ≤ m.from) moves j in
            let Q : ℕ → Type 0 = λ k. IsPartitionPoint (λ (m : Move). m.from < k) (λ (m : Move). k ≤ m.from) moves i in
            subst P (sym (get_or_push offsets i 0 p (sym e))) (subst Q (sym same) point)
      ];
}

-- the act is an input
abbrev pub IsInputAct : ℕ → Act → Type 0
IsInputAct inputs Tau = ⊥
IsInputAct inputs (Label a) = a < inputs

pub quiet_from_moves : (s : System) (p : ℕ) (ms : List Move) → AreMovesOf s p ms → ((k : ℕ) (d : Move) → k < length ms → IsInputAct s.inputs (get_or ms k d).act) → IsStable s p × GivesNoOutput s p
quiet_from_moves s p ms these inputs =
    let one : (m : Move) → m.from ≡ p → Contains s.moves m → IsInputAct s.inputs m.act =
    λ m e has. All-contains (λ (m' : Move). IsInputAct s.inputs m'.act) ms m inputs (these.all m e has) in (
      λ q has. one (record { from = p; act = Tau; to = q }) refl has,
      λ a high takes. let low = one (record { from = p; act = Label a; to = takes.0 }) refl takes.1 in omega (arith, low),
    )

same_move : (m : Move) (p : ℕ) (act : Act) → m.from ≡ p → m.act ≡ act → m ≡ record { from = p; act = act; to = m.to }
same_move m p act e f = let F : ℕ → Act → Move = λ a b. record { from = a; act = b; to = m.to } in ap₂ F e f

pub loud_from_tau : (s : System) (p : ℕ) (ms : List Move) (i : ℕ) (d : Move) → AreMovesOf s p ms → i < length ms → (get_or ms i d).act ≡ Tau → ¬ (IsStable s p × GivesNoOutput s p)
loud_from_tau s p ms i d these below is_tau quiet =
    let each = these.each i d below in
    quiet.0 (get_or ms i d).to (subst (λ (m : Move). Contains s.moves m) (same_move (get_or ms i d) p Tau each.0 is_tau) each.1)

pub loud_from_output : (s : System) (p : ℕ) (ms : List Move) (i : ℕ) (d : Move) (a : ℕ) → AreMovesOf s p ms → i < length ms → (get_or ms i d).act ≡ Label a → s.inputs ≤ a → ¬ (IsStable s p × GivesNoOutput s p)
loud_from_output s p ms i d a these below is_label high quiet =
    let each = these.each i d below in
    quiet.1 a high ((get_or ms i d).to, subst (λ (m : Move). Contains s.moves m) (same_move (get_or ms i d) p (Label a) each.0 is_label) each.1)

-- what is read at two neighbouring offsets: the part of the moves that leave the state between them
pub offset_part : (states : ℕ) (ms : List Move) (offsets : List ℕ) (p from to : ℕ) → AreOffsets states ms offsets → p < states →
    from ≡ get_or offsets p from → to ≡ get_or offsets (p + 1) to → (from ≤ to) × (to ≤ length ms) × (take (to - from) (drop from ms) ≡ filter (leaves p) ms)
offset_part states ms offsets p from to h below e f =
    let low : p < length offsets = omega (arith, h.long) in
    let high : p + 1 < length offsets = omega (arith, h.long) in
    let e' : from ≡ get_or offsets p 0 = get_or_read offsets p from low e 0 in
    let f' : to ≡ get_or offsets (p + 1) 0 = get_or_read offsets (p + 1) to high f 0 in
    let wi : from ≤ length ms = subst (λ (i : ℕ). i ≤ length ms) (sym e') (h.within p 0 low) in
    let wj : to ≤ length ms = subst (λ (i : ℕ). i ≤ length ms) (sym f') (h.within (p + 1) 0 high) in
    let pi : IsPartitionPoint (λ (m : Move). m.from < p) (λ (m : Move). p ≤ m.from) ms from = rw e' (h.points p (omega arith)) in
    let pj : IsPartitionPoint (λ (m : Move). m.from < p + 1) (λ (m : Move). p + 1 ≤ m.from) ms to = rw f' (h.points (p + 1) (omega arith)) in
    let both = leaves-between ms p from to pi pj wi wj in
    (both.0, wj, both.1)

-- a sort by any total order that looks at the state first
pub by_state_from_sorted : (C : Move → Move → Ordering) → IsTotalOrder C → ((x y : Move) → x.from < y.from → C x y ≡ Less) → (ms : List Move) →
    IsSorted C ms → AreByState ms
by_state_from_sorted C total first ms sorted = λ i j d le below.
    let far : is_lt (C (get_or ms j d) (get_or ms i d)) ≡ false =
    sorted_far (λ x y. is_lt (C x y)) (ranks_by total (λ (m : Move). m)) ms sorted i j d le below in
    elim (cases_lt (get_or ms j d).from (get_or ms i d).from) [
      | inl lt ↦ absurd (let e : C (get_or ms j d) (get_or ms i d) ≡ Less = first (get_or ms j d) (get_or ms i d) lt in let g : is_lt Less ≡ false = rw e at far in cc)
      | inr ge ↦ ge
    ]

pub offsets_from_first : (states : ℕ) (moves : List Move) (offsets : List ℕ) → AreFirstOffsets (states + 1) moves offsets → AreOffsets states moves offsets
offsets_from_first states moves offsets h = record { long = h.long; within = h.within; points = λ p le. h.points p (omega arith) }

pub AllMoves-permuted : (states n : ℕ) (ms ns : List Move) → IsPermutation ms ns → All (IsMoveOf states n) ms → All (IsMoveOf states n) ns
AllMoves-permuted states n ms ns p all = All-permutation (IsMoveOf states n) ms ns p all

-- the part of a list that was looked at is all of it
pub all_from_taken : {X : Type 0} (P : X → Type 0) (xs : List X) (n : ℕ) → length xs ≤ n → All P (take n xs) → All P xs
all_from_taken P xs n le all = λ k d below.
    subst P (get_or-take n xs k d (omega arith)) (all k d (omega (arith, length-take n xs)))
