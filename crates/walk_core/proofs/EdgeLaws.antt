-- Laws on the edges that a walk keeps.
use Rattle.std.proofs.Common.{ℕ, ◌+◌, ◌*◌, ◌<◌, ◌≤◌, ◌≡◌, eqb, Bool, true, false, List, [], ◌∷◌, ◌++◌, length, Option, Some, None, refl, sym, ap, ◌∙◌, inl, inr, ◌⊎◌, arith}
use Rattle.std.specs.Option.{option_map}
use Rattle.std.specs.List.{IsDistinct, list_any}
use Rattle.std.specs.Map.{lookup, keys_of}
use Rattle.std.proofs.lemmas.Bool.{cases_Bool, cases_eq, eqb-true, eq-eqb, ne_eqb}
use Rattle.std.proofs.lemmas.Cmp.{nat_eq_equiv}
use Rattle.std.proofs.lemmas.Map.Keys.{IsDistinct-push, IsDistinct-IsPermutation}
use Rattle.std.proofs.lemmas.List.Sorted.{IsPermutation-append_right, IsPermutation-append_comm}
use Rattle.std.specs.List.Sorted.{IsPermutation}
use Rattle.std.proofs.lemmas.List.{append-nil, append_assoc, map-append, map_push, length-append, length_push, get_or_append_left}
use Rattle.lts_base.specs.declared.item.Item.{Item}
use Rattle.lts_base.specs.declared.item.Item.TheVariants.{Input, Output, Delta}
use Rattle.lts_base.specs.System.{System, IsSystem, IsItemOf}
use Rattle.lts_base.specs.Order.{place}
use Rattle.walk_core.specs.declared.edges.TheConstants.{MOST_EDGES}
use Rattle.walk_core.specs.declared.node.Node.{Node}
use Rattle.walk_core.specs.Walked.{Walked, set_at, IsWalk, Grows, IsStep}
use Rattle.walk_core.specs.Edges.{Edge, edge_key, answer_at, AreKept, KeepsEdge, IsAnswer, AreRight}
use Rattle.walk_core.specs.Listed.{IsInserted}
use Rattle.walk_core.proofs.WalkLaws.{IsStep-known}

-- ---- different nodes and items have different numbers

place_low : (s : System) (x : Item) → IsSystem s → IsItemOf s x → place 4294967295 x < 4294967296
place_low s (Input a) system item = omega (arith, system.few, item)
place_low s (Output a) system item = omega (arith, system.few, item.1)
place_low s Delta system item = omega arith

same_item : (s : System) (x y : Item) → IsSystem s → IsItemOf s x → IsItemOf s y → place 4294967295 x ≡ place 4294967295 y → x ≡ y
same_item s (Input a) (Input b) system one other e = ap Input e
same_item s (Input a) (Output b) system one other e = absurd (omega (arith, one, other.0, e))
same_item s (Input a) Delta system one other e = absurd (omega (arith, one, system.few, e))
same_item s (Output a) (Input b) system one other e = absurd (omega (arith, one.0, other, e))
same_item s (Output a) (Output b) system one other e = ap Output e
same_item s (Output a) Delta system one other e = absurd (omega (arith, one.1, system.few, e))
same_item s Delta (Input b) system one other e = absurd (omega (arith, other, system.few, e))
same_item s Delta (Output b) system one other e = absurd (omega (arith, other.1, system.few, e))
same_item s Delta Delta system one other e = refl

same_parts : (a b c d : ℕ) → b < 4294967296 → d < 4294967296 → a * 4294967296 + b ≡ c * 4294967296 + d → (a ≡ c) × (b ≡ d)
same_parts a b c d low high e = (omega (arith, low, high, e), omega (arith, low, high, e))

same_edge : (s : System) (k j : ℕ) (x y : Item) → IsSystem s → IsItemOf s x → IsItemOf s y → edge_key k x ≡ edge_key j y → (k ≡ j) × (x ≡ y)
same_edge s k j x y system one other e =
    let (node, at) = same_parts k (place 4294967295 x) j (place 4294967295 y) (place_low s x system one) (place_low s y system other) e in
    (node, same_item s x y system one other at)

-- ---- one edge more, in the midst of two parts

inserted_kept : (p : ℕ → Bool) (run rest : List Edge) (key : ℕ) (to u : Option Node) → (p key ≡ true → lookup p (run ++ rest) ≡ None) → lookup p (run ++ rest) ≡ Some u → lookup p ((run ++ (key, to) ∷ []) ++ rest) ≡ Some u
inserted_kept p [] rest key to u absent e = elim (cases_Bool (p key)) [
  | inl passes ↦ let no : Some u ≡ None = sym e ∙ absent passes in cc
  | inr fails ↦ rw fails e
]
inserted_kept p (f ∷ run) rest key to u absent e = elim (cases_Bool (p f.0)) [
  | inl passes ↦ rw passes (let e' : Some f.1 ≡ Some u = rw passes at e in e')
  | inr fails ↦ rw fails (inserted_kept p run rest key to u (λ h. let none : lookup p (run ++ rest) ≡ None = rw fails at (absent h) in none) (let e' : lookup p (run ++ rest) ≡ Some u = rw fails at e in e'))
]

inserted_only : (p : ℕ → Bool) (run rest : List Edge) (key : ℕ) (to u : Option Node) → lookup p ((run ++ (key, to) ∷ []) ++ rest) ≡ Some u → (lookup p (run ++ rest) ≡ Some u) ⊎ ((p key ≡ true) × (u ≡ to))
inserted_only p [] rest key to u e = elim (cases_Bool (p key)) [
  | inl passes ↦ let e' : Some to ≡ Some u = rw passes at e in inr (passes, cc)
  | inr fails ↦ inl (let e' : lookup p rest ≡ Some u = rw fails at e in e')
]
inserted_only p (f ∷ run) rest key to u e = elim (cases_Bool (p f.0)) [
  | inl passes ↦ inl (rw passes (let e' : Some f.1 ≡ Some u = rw passes at e in e'))
  | inr fails ↦ rw fails (inserted_only p run rest key to u (let e' : lookup p ((run ++ (key, to) ∷ []) ++ rest) ≡ Some u = rw fails at e in e'))
]

inserted_there : (p : ℕ → Bool) (run rest : List Edge) (key : ℕ) (to : Option Node) → lookup p (run ++ rest) ≡ None → p key ≡ true → lookup p ((run ++ (key, to) ∷ []) ++ rest) ≡ Some to
inserted_there p [] rest key to none passes = rw passes refl
inserted_there p (f ∷ run) rest key to none passes = elim (cases_Bool (p f.0)) [
  | inl first ↦ let e' : Some f.1 ≡ None = rw first at none in cc
  | inr fails ↦ rw fails (inserted_there p run rest key to (let e' : lookup p (run ++ rest) ≡ None = rw fails at none in e') passes)
]

pub IsInserted-run : (run rest : List Edge) (key : ℕ) (to : Option Node) → lookup (eqb key) (run ++ rest) ≡ None → IsInserted (run ++ rest) ((run ++ (key, to) ∷ []) ++ rest) key to
IsInserted-run run rest key to none = record {
  longer = let whole : length ((run ++ (key, to) ∷ []) ++ rest) ≡ length (run ++ (key, to) ∷ []) + length rest = length-append (run ++ (key, to) ∷ []) rest in
      let front : length (run ++ (key, to) ∷ []) ≡ length run + 1 = length_push run (key, to) in
      let before : length (run ++ rest) ≡ length run + length rest = length-append run rest in
      omega (arith, whole, front, before);
  there = inserted_there (eqb key) run rest key to none (eq-eqb key key refl);
  kept = λ q u e. inserted_kept (eqb q) run rest key to u (λ passes. rw (eqb-true q key passes) none) e;
  only = λ q u e. elim (inserted_only (eqb q) run rest key to u e) [
    | inl before ↦ inl before
    | inr (passes, same) ↦ inr (eqb-true q key passes, same)
  ];
}

pub IsInserted-rest : (run rest : List Edge) (key : ℕ) (to : Option Node) → lookup (eqb key) (run ++ rest) ≡ None → IsInserted (run ++ rest) (run ++ (rest ++ (key, to) ∷ [])) key to
IsInserted-rest run rest key to none =
    let e : (run ++ rest) ++ (key, to) ∷ [] ≡ run ++ (rest ++ (key, to) ∷ []) = append_assoc run rest ((key, to) ∷ []) in
    let none' : lookup (eqb key) ((run ++ rest) ++ []) ≡ None = rw (append-nil (run ++ rest)) none in
    let pushed : IsInserted ((run ++ rest) ++ []) (((run ++ rest) ++ (key, to) ∷ []) ++ []) key to = IsInserted-run (run ++ rest) [] key to none' in
    rw (append-nil (run ++ rest), append-nil ((run ++ rest) ++ (key, to) ∷ []), e) at pushed

-- ---- no number stands twice

eqb_flips : (x y : ℕ) → eqb x y ≡ eqb y x
eqb_flips x y = elim (cases_eq x y) [
  | inl same ↦ eq-eqb x y same ∙ sym (eq-eqb y x (sym same))
  | inr other ↦ ne_eqb x y other ∙ sym (ne_eqb y x (λ e. other (sym e)))
]

none_listed : (key : ℕ) (edges : List Edge) → lookup (eqb key) edges ≡ None → list_any (eqb key) (keys_of edges) ≡ false
none_listed key [] none = refl
none_listed key (f ∷ edges) none = elim (cases_Bool (eqb key f.0)) [
  | inl passes ↦ let no : Some f.1 ≡ None = rw passes at none in cc
  | inr fails ↦ rw fails (none_listed key edges (let e' : lookup (eqb key) edges ≡ None = rw fails at none in e'))
]

pub once_pushed : (edges : List Edge) (key : ℕ) (to : Option Node) → lookup (eqb key) edges ≡ None → IsDistinct eqb (keys_of edges) → IsDistinct eqb (keys_of (edges ++ (key, to) ∷ []))
once_pushed edges key to none once =
    rw (map_push (λ (e : Edge). e.0) edges (key, to)) (IsDistinct-push nat_eq_equiv (keys_of edges) key once (none_listed key edges none))

pub once_rest : (run rest : List Edge) (key : ℕ) (to : Option Node) → lookup (eqb key) (run ++ rest) ≡ None → IsDistinct eqb (keys_of (run ++ rest)) → IsDistinct eqb (keys_of (run ++ (rest ++ (key, to) ∷ [])))
once_rest run rest key to none once = rw (append_assoc run rest ((key, to) ∷ [])) at (once_pushed (run ++ rest) key to none once)

pub once_run : (run rest : List Edge) (key : ℕ) (to : Option Node) → lookup (eqb key) (run ++ rest) ≡ None → IsDistinct eqb (keys_of (run ++ rest)) → IsDistinct eqb (keys_of ((run ++ (key, to) ∷ []) ++ rest))
once_run run rest key to none once =
    IsDistinct-IsPermutation eqb eqb_flips (keys_of (run ++ (rest ++ (key, to) ∷ []))) (keys_of ((run ++ (key, to) ∷ []) ++ rest)) moved (once_rest run rest key to none once)
  where
    K : List Edge → List ℕ
    K es = keys_of es

    moved : IsPermutation (keys_of (run ++ (rest ++ (key, to) ∷ []))) (keys_of ((run ++ (key, to) ∷ []) ++ rest))
    moved =
        let left : keys_of (run ++ (rest ++ (key, to) ∷ [])) ≡ keys_of run ++ (keys_of rest ++ key ∷ []) = rw (map-append (λ (e : Edge). e.0) run (rest ++ (key, to) ∷ []), map-append (λ (e : Edge). e.0) rest ((key, to) ∷ [])) refl in
        let right : keys_of ((run ++ (key, to) ∷ []) ++ rest) ≡ keys_of run ++ (key ∷ [] ++ keys_of rest) = rw (map-append (λ (e : Edge). e.0) (run ++ (key, to) ∷ []) rest, map-append (λ (e : Edge). e.0) run ((key, to) ∷ [])) (append_assoc (keys_of run) (key ∷ []) (keys_of rest)) in
        rw (left, right) (IsPermutation-append_right (keys_of run) (keys_of rest ++ key ∷ []) (key ∷ [] ++ keys_of rest) (IsPermutation-append_comm (keys_of rest) (key ∷ [])))

-- ---- a look-up in two parts

pub lookup_left : (p : ℕ → Bool) (run rest : List Edge) (u : Option Node) → lookup p run ≡ Some u → lookup p (run ++ rest) ≡ Some u
lookup_left p [] rest u e = cc
lookup_left p (f ∷ run) rest u e = elim (cases_Bool (p f.0)) [
  | inl passes ↦ rw passes (let e' : Some f.1 ≡ Some u = rw passes at e in e')
  | inr fails ↦ rw fails (lookup_left p run rest u (let e' : lookup p run ≡ Some u = rw fails at e in e'))
]

pub lookup_right : (p : ℕ → Bool) (run rest : List Edge) → lookup p run ≡ None → lookup p (run ++ rest) ≡ lookup p rest
lookup_right p [] rest e = refl
lookup_right p (f ∷ run) rest e = elim (cases_Bool (p f.0)) [
  | inl passes ↦ let no : Some f.1 ≡ None = rw passes at e in cc
  | inr fails ↦ rw fails (lookup_right p run rest (let e' : lookup p run ≡ None = rw fails at e in e'))
]

pub none_right : (p : ℕ → Bool) (run rest : List Edge) → lookup p (run ++ rest) ≡ None → lookup p rest ≡ None
none_right p [] rest e = e
none_right p (f ∷ run) rest e = elim (cases_Bool (p f.0)) [
  | inl passes ↦ let no : Some f.1 ≡ None = rw passes at e in cc
  | inr fails ↦ none_right p run rest (let e' : lookup p (run ++ rest) ≡ None = rw fails at e in e')
]

-- ---- edges stay right

pub AreRight-none : (w : Walked) → AreRight w []
AreRight-none w = record { each = λ k x to item e. cc }

-- a set of the walk is as before
set_kept : (old new : Walked) (k : ℕ) → Grows old new → k < length old.sets → set_at new.sets k ≡ set_at old.sets k
set_kept old new k grows below =
    let (more, e) = grows.sets in
    rw e (get_or_append_left old.sets more [] k below)

longer : (old new : Walked) → Grows old new → length old.sets ≤ length new.sets
longer old new grows = let (more, e) = grows.sets in rw e (length_left old.sets more)
  where
    length_left : {X : Type 0} (xs ys : List X) → length xs ≤ length (xs ++ ys)
    length_left [] ys = omega arith
    length_left (x ∷ xs) ys = omega (arith, length_left xs ys)

pub AreRight-grow : (old new : Walked) (edges : List Edge) → Grows old new → AreRight old edges → AreRight new edges
AreRight-grow old new edges grows are = record {
  each = λ k x to item e. let (below, answer) = are.each k x to (rw grows.system at item) e in (omega (arith, below, longer old new grows), go k x to below answer);
}
  where
    go : (k : ℕ) (x : Item) (to : Option Node) → k < length old.sets → IsAnswer old k x to → IsAnswer new k x to
    go k x None below next = rw (grows.system, set_kept old new k grows below) next
    go k x (Some n) below (there, next) =
        (omega (arith, there, longer old new grows), rw (grows.system, set_kept old new k grows below, set_kept old new n.0 grows there) next)

-- what a step answered is right
IsAnswer-from_step : (old new : Walked) (k : ℕ) (x : Item) (to : Option Node) → Grows old new → k < length old.sets → IsStep old new k x (option_map (λ (n : Node). n.0) to) → IsAnswer new k x to
IsAnswer-from_step old new k x None grows below step = rw (grows.system, set_kept old new k grows below) step.0
IsAnswer-from_step old new k x (Some n) grows below (qs, next, is, grown, there, at) =
    (there, rw (grows.system, set_kept old new k grows below, at) next)

AreRight-push : (w : Walked) (edges new : List Edge) (k : ℕ) (x : Item) (to : Option Node) → IsSystem w.system → k < length w.sets → IsItemOf w.system x → IsAnswer w k x to → IsInserted edges new (edge_key k x) to → AreRight w edges →
    AreRight w new
AreRight-push w edges new k x to system below item answer inserted are = record {
  each = λ j y u other e. elim (inserted.only (edge_key j y) u e) [
    | inl before ↦ are.each j y u other before
    | inr (same_key, same) ↦
        let parts = same_edge w.system j k y x system other item same_key in
        rw (parts.0, parts.1, same) (below, answer)
  ];
}

-- the edge of a step that was made
pub AreRight-step : (old new : Walked) (edges more : List Edge) (k : ℕ) (x : Item) (to : Option Node) → IsWalk new → Grows old new → k < length old.sets → IsItemOf old.system x →
    IsStep old new k x (option_map (λ (n : Node). n.0) to) → IsInserted edges more (edge_key k x) to → AreRight old edges → AreRight new more
AreRight-step old new edges more k x to walk grows below item step inserted are =
    AreRight-push new edges more k x to walk.system (omega (arith, below, longer old new grows)) (rw grows.system item) (IsAnswer-from_step old new k x to grows below step) inserted (AreRight-grow old new edges grows are)

-- ---- what a step says of the edges

-- a step that is kept is a step
pub IsStep-answer : (w : Walked) (k : ℕ) (x : Item) (to : Option Node) → IsWalk w → IsAnswer w k x to → IsStep w w k x (option_map (λ (n : Node). n.0) to)
IsStep-answer w k x None walk next = (next, refl)
IsStep-answer w k x (Some n) walk (below, next) = IsStep-known w k x n.0 walk below next

pub KeepsEdge-there : (edges : List Edge) (k : ℕ) (x : Item) (to : Option Node) → answer_at edges k x ≡ Some to → KeepsEdge edges edges k x to
KeepsEdge-there edges k x to e = record { there = inl e; kept = λ j y u h. h; only = λ j y u h. inl h; count = inl refl }

pub KeepsEdge-full : (edges : List Edge) (k : ℕ) (x : Item) (to : Option Node) → AreKept edges → MOST_EDGES ≤ length edges → KeepsEdge edges edges k x to
KeepsEdge-full edges k x to are full = record { there = inr (omega (arith, are.few, full)); kept = λ j y u h. h; only = λ j y u h. inl h; count = inl refl }

pub KeepsEdge-push : (edges new : List Edge) (k : ℕ) (x : Item) (to : Option Node) → IsInserted edges new (edge_key k x) to → KeepsEdge edges new k x to
KeepsEdge-push edges new k x to inserted = record {
  there = inl inserted.there;
  kept = λ j y u h. inserted.kept (edge_key j y) u h;
  only = λ j y u h. inserted.only (edge_key j y) u h;
  count = inr inserted.longer;
}

pub AreKept-push : (edges new : List Edge) (key : ℕ) (to : Option Node) → AreKept edges → (IsDistinct eqb (keys_of edges) → IsDistinct eqb (keys_of new)) → IsInserted edges new key to → length edges < MOST_EDGES → AreKept new
AreKept-push edges new key to are once inserted below = record { once = once are.once; few = omega (arith, inserted.longer, below) }

pub AreKept-none : AreKept []
unfolding IsDistinct
AreKept-none = record { once = tt; few = omega arith }
