-- Laws on moves that are sorted as numbers: the same moves, in another order.
use Rattle.std.proofs.Common.{◌≡◌, ◌∙◌, ℕ, ◌+◌, ◌<◌, ◌≤◌, List, [], ◌∷◌, ◌++◌, length, get_or, map, take, ap, sym, subst, Result, Ok, Err, IfOk}
use Rattle.std.specs.List.Sorted.{IsPermutation}
use Rattle.std.proofs.lemmas.List.{append_assoc, append-nil, map-append, take_more}
use Rattle.std.proofs.lemmas.List.Sorted.{IsPermutation-refl, IsPermutation-trans, IsPermutation-map, IsPermutation-append_left, IsPermutation-append_right, IsPermutation-append_comm}
use Rattle.lts_base.specs.declared.action.Move.{Move}
use Rattle.lts_base.specs.MoveNumber.{move_of}
use Rattle.lts_base.proofs.SortingLaws.{take_all}

-- sorted numbers stand for the same moves
pub put_in_turn : (moves new : List Move) (keys sorted handed : List ℕ) → IsPermutation keys sorted → handed ≡ sorted → new ≡ moves ++ map move_of handed →
    IsPermutation (moves ++ map move_of keys) new
put_in_turn moves new keys sorted handed order same is =
    let whole : new ≡ moves ++ map move_of sorted = is ∙ ap (λ (ks : List ℕ). moves ++ map move_of ks) same in
    subst (IsPermutation (moves ++ map move_of keys)) (sym whole) (IsPermutation-append_right moves _ _ (IsPermutation-map move_of keys sorted order))

-- no number is left
pub turned : (old moves : List Move) (keys : List ℕ) → IsPermutation old moves → keys ≡ [] → IsPermutation old (moves ++ map move_of keys)
turned old moves keys order none =
    subst (IsPermutation old) (sym (ap (λ (ks : List ℕ). moves ++ map move_of ks) none ∙ append-nil moves)) order

-- a number more is a move more
pub numbered : (moves : List Move) (keys more : List ℕ) (key : ℕ) (m : Move) → more ≡ keys ++ key ∷ [] → move_of key ≡ m →
    IsPermutation ((moves ++ map move_of keys) ++ m ∷ []) (moves ++ map move_of more)
numbered moves keys more key m is stands =
    let whole : (moves ++ map move_of keys) ++ m ∷ [] ≡ moves ++ map move_of more =
    append_assoc moves (map move_of keys) (m ∷ []) ∙ ap (λ (n : Move). moves ++ (map move_of keys ++ n ∷ [])) (sym stands) ∙
    ap (λ (ms : List Move). moves ++ ms) (sym (map-append move_of keys (key ∷ []))) ∙ ap (λ (ks : List ℕ). moves ++ map move_of ks) (sym is) in
    subst (IsPermutation ((moves ++ map move_of keys) ++ m ∷ [])) whole (IsPermutation-refl _)

-- a move that has no number comes before those that have one
pub unnumbered : (moves more : List Move) (keys : List ℕ) (m : Move) → more ≡ moves ++ m ∷ [] → IsPermutation ((moves ++ map move_of keys) ++ m ∷ []) (more ++ map move_of keys)
unnumbered moves more keys m is =
    let swapped : IsPermutation (moves ++ (map move_of keys ++ m ∷ [])) (moves ++ (m ∷ [] ++ map move_of keys)) =
    IsPermutation-append_right moves _ _ (IsPermutation-append_comm (map move_of keys) (m ∷ [])) in
    let whole : moves ++ (m ∷ [] ++ map move_of keys) ≡ more ++ map move_of keys =
    sym (append_assoc moves (m ∷ []) (map move_of keys)) ∙ ap (λ (ms : List Move). ms ++ map move_of keys) (sym is) in
    subst (λ (ms : List Move). IsPermutation ms (more ++ map move_of keys)) (sym (append_assoc moves (map move_of keys) (m ∷ []))) (subst (IsPermutation (moves ++ (map move_of keys ++ m ∷ []))) whole swapped)

-- a move that is added after moves were put in order
pub added : (old between new : List Move) (m : Move) → IsPermutation old between → IsPermutation (between ++ m ∷ []) new → IsPermutation (old ++ m ∷ []) new
added old between new m order more = IsPermutation-trans _ _ _ (IsPermutation-append_left (m ∷ []) old between order) more

-- one move more
pub one_more : {X : Type 0} (f : X → Move) (xs : List X) (d : X) (i : ℕ) (old new : List Move) (m : Move) → i < length xs → m ≡ f (get_or xs i d) →
    IsPermutation (map f (take i xs)) old → IsPermutation (old ++ m ∷ []) new → IsPermutation (map f (take (i + 1) xs)) new
one_more f xs d i old new m inside is so_far more =
    let whole : map f (take (i + 1) xs) ≡ map f (take i xs) ++ m ∷ [] =
    ap (map f) (take_more xs i d inside) ∙ map-append f (take i xs) (get_or xs i d ∷ []) ∙ ap (λ (n : Move). map f (take i xs) ++ n ∷ []) (sym is) in
    subst (λ (ms : List Move). IsPermutation ms new) (sym whole) (added _ _ _ _ so_far more)

-- and all moves at the end
pub ended : {X E : Type 0} (f : X → Move) (xs : List X) (i : ℕ) (some : List Move) (result : Result (List Move) E) → length xs ≤ i →
    IsPermutation (map f (take i xs)) some → IfOk result (IsPermutation some) → IfOk result (λ ms. IsPermutation (map f xs) ms)
ended f xs i some (Err e) all so_far is = tt
ended f xs i some (Ok ms) all so_far is =
    IsPermutation-trans _ _ _ (subst (λ (us : List Move). IsPermutation us some) (ap (map f) (take_all xs i all)) so_far) is
