-- Laws on items that stand one after another.
use Rattle.std.proofs.Common.{◌≡◌, ℕ, zero, suc, ◌<◌, ◌≤◌, List, [], length, Option, Some, None, refl, ap, arith}
use Rattle.graphml_scan.specs.Many.{Cut, with_first, many_within, many}

-- each item has a byte at least
abbrev pub Shrinks : {A : Type 0} → (List ℕ → Option (Cut A)) → Type 0
Shrinks {A} item = (bytes : List ℕ) (x : Cut A) → item bytes ≡ Some x → length x.1 < length bytes

-- where no item stands
pub many-none : {A : Type 0} (item : List ℕ → Option (Cut A)) (bytes : List ℕ) → item bytes ≡ None → many item bytes ≡ ([], bytes)
unfolding many many_within
many-none item bytes none = go (length bytes)
  where
    go : (n : ℕ) → many_within n item bytes ≡ ([], bytes)
    go zero = refl
    go (suc n) = rw none refl

-- how many items there may be at most doesn't matter, if it is as many as there are bytes
within_same : {A : Type 0} (item : List ℕ → Option (Cut A)) → Shrinks item → (n m : ℕ) (bytes : List ℕ) → length bytes ≤ n → length bytes ≤ m → many_within n item bytes ≡ many_within m item bytes
unfolding many_within
within_same item shrinks zero zero bytes low high = refl
within_same {A} item shrinks zero (suc m) bytes low high = go (item bytes) refl
  where
    go : (o : Option (Cut A)) → item bytes ≡ o → many_within zero item bytes ≡ many_within (suc m) item bytes
    go None e = rw e refl
    go (Some x) e = absurd (omega (arith, shrinks bytes x e, low))
within_same {A} item shrinks (suc n) zero bytes low high = go (item bytes) refl
  where
    go : (o : Option (Cut A)) → item bytes ≡ o → many_within (suc n) item bytes ≡ many_within zero item bytes
    go None e = rw e refl
    go (Some x) e = absurd (omega (arith, shrinks bytes x e, high))
within_same {A} item shrinks (suc n) (suc m) bytes low high = go (item bytes) refl (λ (x : Cut A) (e : item bytes ≡ Some x).
    within_same item shrinks n m x.1 (omega (arith, shrinks bytes x e, low)) (omega (arith, shrinks bytes x e, high)))
  where
    go : (o : Option (Cut A)) → item bytes ≡ o → ((x : Cut A) → item bytes ≡ Some x → many_within n item x.1 ≡ many_within m item x.1) → many_within (suc n) item bytes ≡ many_within (suc m) item bytes
    go None e others = rw e refl
    go (Some x) e others = rw e (ap (λ (r : Cut (List A)). with_first x.0 r) (others x e))

-- where an item stands
pub many-some : {A : Type 0} (item : List ℕ → Option (Cut A)) (bytes : List ℕ) (x : Cut A) → Shrinks item → item bytes ≡ Some x → many item bytes ≡ with_first x.0 (many item x.1)
unfolding many many_within
many-some {A} item bytes x shrinks e = go (length bytes) refl
  where
    go : (n : ℕ) → length bytes ≡ n → many_within n item bytes ≡ with_first x.0 (many_within (length x.1) item x.1)
    go zero len = absurd (omega (arith, shrinks bytes x e, len))
    go (suc n) len = rw e (ap (λ (r : Cut (List A)). with_first x.0 r) (within_same item shrinks n (length x.1) x.1 (omega (arith, shrinks bytes x e, len)) (omega arith)))
