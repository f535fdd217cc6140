-- The keys of a table, and the traces that lead to its pairs.
use Rattle.std.proofs.Common.{eqb, ℕ, ◌+◌, ◌<◌, ◌≡◌, ◌↔◌, List, [], ◌∷◌, ◌++◌, length, map, get_or, Bool, true, false, cond, Some, None, Option, refl, sym, ap, ◌∙◌, inl, inr, ◌⊎◌, arith}
use Rattle.std.specs.Prelude.{Contains, IsTrue, Result, Ok, Err, OnOk, OnErr}
use Rattle.std.specs.Result.{is_ok}
use Rattle.std.specs.Option.{option_to_list, MatchOption}
use Rattle.std.specs.HashSet.{HashSet, contains, Updates}
use Rattle.std.proofs.lemmas.Bool.{cases_Bool, cases_lt, false≢true, eqb-true}
use Rattle.std.proofs.lemmas.Cmp.{nat_eq_equiv}
use Rattle.std.proofs.lemmas.List.{same_from_push, map_push, get_or-map, length-map, length_push, get_or_push, get_or_append_left}
use Rattle.std.proofs.lemmas.List.Elements.{Contains-push, Contains-push_cases, Contains-append_left}
use Rattle.std.proofs.lemmas.Map.Views.{hash_set_contains_iff}
use Rattle.conf_decide.specs.declared.table.Found.{Found}
use Rattle.conf_decide.specs.Table.{no_found, found_at, key_of, found_key, AreKeys, HasPair}

same_key : (a b c d : ℕ) → b < 4294967296 → d < 4294967296 → key_of a b ≡ key_of c d → (a ≡ c) × (b ≡ d)
same_key a b c d small below e = (omega (arith, small, below, e), omega (arith, small, below, e))

pair_same : (a b c d : ℕ) → a ≡ c → b ≡ d → ◌≡◌ {A = ℕ × ℕ} (a, b) (c, d)
pair_same a b c d e f = ap (λ (x : ℕ). (x, b)) e ∙ ap (λ (x : ℕ). (c, x)) f

pub has_from_key : (found : List Found) (ks : List ℕ) (left right : ℕ) → AreKeys found ks → right < 4294967296 → Contains ks (key_of left right) → HasPair found left right
has_from_key found ks left right keys small has =
    let (k, below, at) = keys.each (key_of left right) has in
    let within : k < length found = rw (length-map found found_key) at below in
    let there : get_or (map found_key found) k (key_of left right) ≡ found_key (found_at found k) = get_or-map found_key found k no_found (key_of left right) within in
    let e : found_key (found_at found k) ≡ key_of left right = rw there at at in
    let (l, r) = same_key _ _ _ _ (keys.small k within) small e in
    (k, within, pair_same _ _ _ _ l r)

pub key_from_has : (found : List Found) (ks : List ℕ) (left right : ℕ) → AreKeys found ks → HasPair found left right → Contains ks (key_of left right)
key_from_has found ks left right keys (k, within, at) =
    let e : found_key (found_at found k) ≡ key_of left right = ap (λ (p : ℕ × ℕ). key_of p.0 p.1) at in
    let there : get_or (map found_key found) k (key_of left right) ≡ key_of left right = get_or-map found_key found k no_found (key_of left right) within ∙ e in
    keys.all _ (k, rw (length-map found found_key) within, there)

either : (b : Bool) → cond b true true ≡ true
either true = refl
either false = refl

pub on_ok : {T E P : Type 0} (r : Result T E) → is_ok r ≡ true → OnOk r P → P
on_ok (Ok x) e h = h
on_ok (Err x) e h = absurd (false≢true e)

pub on_err : {T E P : Type 0} (r : Result T E) → is_ok r ≡ false → OnErr r P → P
on_err (Ok x) e h = absurd (false≢true (sym e))
on_err (Err x) e h = h

pub popped : (xs ys : List Found) (f : Found) (o : Option Found) (n m : ℕ) (A : Type 0) (B : Found → Type 0) → xs ++ f ∷ [] ≡ ys ++ option_to_list o → MatchOption o ((n ≡ 0) × A) B → n ≡ m + 1 → ys ≡ xs
popped xs ys f (Some g) n m A B e cases some = sym (same_from_push xs ys f g e).0
popped xs ys f None n m A B e cases some = absurd (omega (arith, cases.0, some))

pub AreKeys-push : (found : List Found) (f : Found) {S : Type 0} (s n : HashSet ℕ S) → f.right < 4294967296 → AreKeys found s.keys → Updates eqb s n (found_key f) true → AreKeys (found ++ f ∷ []) n.keys
AreKeys-push found f s n small keys (at, here, others, kept) =
    record {
      small = λ k below. below_push k below;
      each = λ key has. each key has (cases_Bool (eqb (found_key f) key));
      all = λ key has. all key (Contains-push_cases (map found_key found) (found_key f) key (rw (map_push found_key found f) at has));
    }
  where
    below_push : (k : ℕ) → k < length (found ++ f ∷ []) → (found_at (found ++ f ∷ []) k).right < 4294967296
    below_push k below =
        elim (cases_lt k (length found)) [
          | inl l ↦ rw (get_or_append_left found (f ∷ []) no_found k l) (keys.small k l)
          | inr l ↦ rw (get_or_push found f no_found k (omega (arith, l, rw (length_push found f) at below))) small
        ]

    each : (key : ℕ) → Contains n.keys key → (eqb (found_key f) key ≡ true) ⊎ (eqb (found_key f) key ≡ false) → Contains (map found_key (found ++ f ∷ [])) key
    each key has (inl t) =
        rw (map_push found_key found f, eqb-true (found_key f) key t) (Contains-push (map found_key found) key)
    each key has (inr t) =
        let now : contains eqb n key ≡ true = (hash_set_contains_iff nat_eq_equiv eqb-true n key).1 has in
        let before : contains eqb s key ≡ true = sym (others key t) ∙ now in
        rw (map_push found_key found f) (Contains-append_left _ _ _ (keys.each key ((hash_set_contains_iff nat_eq_equiv eqb-true s key).0 before)))

    all : (key : ℕ) → Contains (map found_key found) key ⊎ (found_key f ≡ key) → Contains n.keys key
    all key (inl has) =
        let before : contains eqb s key ≡ true = (hash_set_contains_iff nat_eq_equiv eqb-true s key).1 (keys.all key has) in
        (hash_set_contains_iff nat_eq_equiv eqb-true n key).0 (at key ∙ rw before (either (eqb (found_key f) key)))
    all key (inr same) = rw (← same) ((hash_set_contains_iff nat_eq_equiv eqb-true n (found_key f)).0 here)

pub has_iff : (found : List Found) {S : Type 0} (s : HashSet ℕ S) (left right key : ℕ) (b : Bool) → AreKeys found s.keys → right < 4294967296 → key ≡ key_of left right → b ≡ contains eqb s key → IsTrue b ↔ HasPair found left right
has_iff found s left right key b keys small e is = (
  λ t. has_from_key found s.keys left right keys small (rw e at ((hash_set_contains_iff nat_eq_equiv eqb-true s key).0 (sym is ∙ t))),
  λ h. is ∙ (hash_set_contains_iff nat_eq_equiv eqb-true s key).1 (rw e (key_from_has found s.keys left right keys h)),
)
