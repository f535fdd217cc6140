-- Laws on distinct lists and their sizes.
use Rattle.std.proofs.Common.{◌≡◌, ℕ, ◌+◌, List, [], ◌∷◌, ◌++◌, length, ◌⊎◌, inl, inr, Contains, refl, sym, ◌∙◌, true}
use Rattle.std.specs.List.{list_any}
use Rattle.std.specs.Str.{bytes_eq}
use Rattle.std.proofs.lemmas.Slice.Eq.{bytes_eq-Decides}
use Rattle.std.proofs.lemmas.List.Folds.{Any-from_list_any, list_any-from_Any}
use Rattle.std.proofs.lemmas.List.Sums.{fold_push, sum_by_push}
use Rattle.std.proofs.lemmas.List.Elements.{Contains-append_left, Contains-push, Contains-push_cases}
use Rattle.std.proofs.lemmas.Bool.{cases_Bool, false≢true, cond-true, cond-false, false_from_ne_true}
use Rattle.lts_base.specs.Reached.{with_new, distinct, total_members}
use Rattle.lts_base.proofs.ListLaws.{snoc_induction, Contains-none}

-- the test that `with_new` makes says whether the list is a member
pub is_seen-true : (lists : List (List ℕ)) (x : List ℕ) → list_any (bytes_eq x) lists ≡ true → Contains lists x
is_seen-true lists x e =
    let (k, y, below, at, same) = Any-from_list_any (bytes_eq x) lists e in
    let is : x ≡ y = (bytes_eq-Decides x y).0 same in
    let found : Contains lists y = (k, below, at) in
    rw is found

pub is_seen-from_contains : (lists : List (List ℕ)) (x : List ℕ) → Contains lists x → list_any (bytes_eq x) lists ≡ true
is_seen-from_contains lists x (k, below, at) =
    list_any-from_Any (bytes_eq x) lists (k, x, below, at, (bytes_eq-Decides x x).1 refl)

-- a list is a member of the lists, or it isn't
pub contains_cases : (lists : List (List ℕ)) (x : List ℕ) → Contains lists x ⊎ (Contains lists x → ⊥)
contains_cases lists x = elim (cases_Bool (list_any (bytes_eq x) lists)) [
  | inl there ↦ inl (is_seen-true lists x there)
  | inr absent ↦ inr (λ inside. false≢true (sym absent ∙ is_seen-from_contains lists x inside))
]

pub with_new-there : (seen : List (List ℕ)) (x : List ℕ) → Contains seen x → with_new seen x ≡ seen
with_new-there seen x inside = cond-true (list_any (bytes_eq x) seen) seen (seen ++ x ∷ []) (is_seen-from_contains seen x inside)

pub with_new-absent : (seen : List (List ℕ)) (x : List ℕ) → (Contains seen x → ⊥) → with_new seen x ≡ seen ++ x ∷ []
with_new-absent seen x absent =
    cond-false (list_any (bytes_eq x) seen) seen (seen ++ x ∷ []) (false_from_ne_true (list_any (bytes_eq x) seen) (λ there. absent (is_seen-true seen x there)))

-- one list more is at the end of the distinct ones, unless it was there
pub distinct-push : (lists : List (List ℕ)) (x : List ℕ) → distinct (lists ++ x ∷ []) ≡ with_new (distinct lists) x
distinct-push lists x = fold_push with_new [] lists x

-- what is seen stays seen, and the new list is seen
pub Contains-with_new : (seen : List (List ℕ)) (y x : List ℕ) → Contains seen x → Contains (with_new seen y) x
Contains-with_new seen y x inside = elim (contains_cases seen y) [
  | inl there ↦ rw (with_new-there seen y there) inside
  | inr absent ↦ rw (with_new-absent seen y absent) (Contains-append_left seen (y ∷ []) x inside)
]

pub Contains-with_new_itself : (seen : List (List ℕ)) (x : List ℕ) → Contains (with_new seen x) x
Contains-with_new_itself seen x = elim (contains_cases seen x) [
  | inl there ↦ rw (with_new-there seen x there) there
  | inr absent ↦ rw (with_new-absent seen x absent) (Contains-push seen x)
]

pub Contains-with_new_cases : (seen : List (List ℕ)) (y x : List ℕ) → Contains (with_new seen y) x → Contains seen x ⊎ (y ≡ x)
Contains-with_new_cases seen y x inside = elim (contains_cases seen y) [
  | inl there ↦ inl (rw (with_new-there seen y there) at inside)
  | inr absent ↦ Contains-push_cases seen y x (rw (with_new-absent seen y absent) at inside)
]

-- each list is one of the distinct ones
pub Contains-distinct : (lists : List (List ℕ)) (x : List ℕ) → Contains lists x → Contains (distinct lists) x
Contains-distinct lists x = snoc_induction (λ (ls : List (List ℕ)). Contains ls x → Contains (distinct ls) x) (λ inside. absurd (Contains-none x inside)) more lists
  where
    more : (ls : List (List ℕ)) (y : List ℕ) → (Contains ls x → Contains (distinct ls) x) → Contains (ls ++ y ∷ []) x → Contains (distinct (ls ++ y ∷ [])) x
    more ls y before inside = rw (distinct-push ls y) (elim (Contains-push_cases ls y x inside) [
      | inl earlier ↦ Contains-with_new (distinct ls) y x (before earlier)
      | inr last ↦ rw last (Contains-with_new_itself (distinct ls) x)
    ])

-- each distinct list is one of the lists
pub Contains-from_distinct : (lists : List (List ℕ)) (x : List ℕ) → Contains (distinct lists) x → Contains lists x
Contains-from_distinct lists x = snoc_induction (λ (ls : List (List ℕ)). Contains (distinct ls) x → Contains ls x) (λ inside. inside) more lists
  where
    more : (ls : List (List ℕ)) (y : List ℕ) → (Contains (distinct ls) x → Contains ls x) → Contains (distinct (ls ++ y ∷ [])) x → Contains (ls ++ y ∷ []) x
    more ls y before inside = elim (Contains-with_new_cases (distinct ls) y x (rw (distinct-push ls y) at inside)) [
      | inl earlier ↦ Contains-append_left ls (y ∷ []) x (before earlier)
      | inr last ↦ rw last (Contains-push ls x)
    ]

-- the sizes with one list more
pub total_members-push : (lists : List (List ℕ)) (x : List ℕ) → total_members (lists ++ x ∷ []) ≡ total_members lists + length x
total_members-push lists x = sum_by_push length lists x
