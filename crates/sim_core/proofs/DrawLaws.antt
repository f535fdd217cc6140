-- Laws on moves that are drawn.
use Rattle.std.proofs.Common.{◌≡◌, ℕ, zero, suc, ◌+◌, ◌<◌, ◌≤◌, ◌%◌, Bool, true, false, List, [], ◌∷◌, ◌++◌, length, get_or, take, map, Option, Some, None, refl, ap, sym, ◌∙◌, arith}
use Rattle.std.specs.List.{filter}
use Rattle.std.specs.Option.{IfSome, IfNone}
use Rattle.std.proofs.lemmas.Nat.{mod_below}
use Rattle.std.proofs.lemmas.List.{length-map, length_push, get_or-map, get_or_push, get_or_append_left}
use Rattle.sim_core.specs.Drawn.{IsDrawn}

-- the item at place i, of which k before it pass, is number k of those that pass
pub nth_filter : {X : Type 0} (p : X → Bool) (xs : List X) (i k : ℕ) (d : X) → i < length xs → p (get_or xs i d) ≡ true → length (filter p (take i xs)) ≡ k →
    (k < length (filter p xs)) × ((e : X) → get_or xs i d ≡ get_or (filter p xs) k e)
nth_filter p [] i k d below is count = absurd (omega (arith, below))
nth_filter p (x ∷ xs) zero k d below is count = rw (← count, is) (omega arith, λ e. refl)
nth_filter {X = X} p (x ∷ xs) (suc i) k d below is count = go (p x) refl (λ m same. nth_filter p xs i m d (omega (arith, below)) is same)
  where
    go : (b : Bool) → p x ≡ b → ((m : ℕ) → length (filter p (take i xs)) ≡ m → (m < length (filter p xs)) × ((e : X) → get_or xs i d ≡ get_or (filter p xs) m e)) →
        (k < length (filter p (x ∷ xs))) × ((e : X) → get_or xs i d ≡ get_or (filter p (x ∷ xs)) k e)
    go true e ih =
        let rest = ih (length (filter p (take i xs))) refl in
        let k_is : suc (length (filter p (take i xs))) ≡ k = rw e at count in
        rw (e, ← k_is) (omega (arith, rest.0), rest.1)
    go false e ih =
        let same : length (filter p (take i xs)) ≡ k = rw e at count in
        rw e (ih k same)

-- the choice at place k among the items and, last, none of them
choice_at : {X : Type 0} (xs : List X) (o : Option X) (k : ℕ) → IfSome o (λ x. (k < length xs) × ((d : X) → x ≡ get_or xs k d)) → IfNone o (length xs ≤ k) → k < length xs + 1 →
    (d : Option X) → o ≡ get_or (map Some xs ++ None ∷ []) k d
choice_at xs (Some x) k (low, is) none below d =
    let front : get_or (map Some xs ++ None ∷ []) k d ≡ get_or (map Some xs) k d = get_or_append_left (map Some xs) (None ∷ []) d k (omega (arith, low, length-map xs Some)) in
    let one : get_or (map Some xs) k d ≡ Some (get_or xs k x) = get_or-map Some xs k x d low in
    let same : Some x ≡ Some (get_or xs k x) = ap Some (is x) in
    same ∙ sym one ∙ sym front
choice_at xs None k some past below d =
    let last : length (map Some xs) ≡ k = omega (arith, past, below, length-map xs Some) in
    sym (get_or_push (map Some xs) None d k last)

-- a choice by a word's remainder is a draw
pub choice_drawn : {R X : Type 0} (step : R → ℕ × R) (xs : List X) (rng : R) (o : Option X) (next : R) (k : ℕ) → k ≡ (step rng).0 % (length xs + 1) → next ≡ (step rng).1 →
    IfSome o (λ x. (k < length xs) × ((d : X) → x ≡ get_or xs k d)) → IfNone o (length xs ≤ k) → IsDrawn step (map Some xs ++ None ∷ []) rng o next
choice_drawn {X = X} step xs rng o next k is after some none =
    let long : length (map Some xs ++ None ∷ []) ≡ length xs + 1 = length_push (map Some xs) None ∙ ap (λ n. n + 1) (length-map xs Some) in
    (omega (arith, long), (λ d. rw (long, ← is) (choice_at xs o k some none (rw (← is) at (mod_below (step rng).0 (length xs + 1) (omega arith))) d)), after)
