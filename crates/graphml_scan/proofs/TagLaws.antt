-- Laws on the attributes of a tag.
use Rattle.std.proofs.Common.{◌≡◌, ◌∙◌, ℕ, zero, suc, ◌+◌, ◌<◌, ◌≤◌, Bool, true, false, not, cond, ◌||◌, List, [], ◌∷◌, ◌++◌, length, get_or, take, drop, map, Option, Some, None, refl, sym, ap, subst, arith, append_assoc}
use Rattle.std.specs.List.{list_any}
use Rattle.std.specs.Prelude.{option_map}
use Rattle.std.specs.Str.{bytes_eq}
use Rattle.std.proofs.lemmas.List.{append-nil, drop_more, take_more, map_push}
use Rattle.std.proofs.lemmas.Bool.Decides.{same_from_decides}
use Rattle.std.proofs.lemmas.Slice.Eq.{bytes_eq-Decides}
use Rattle.indexmap.specs.IndexSet.{insert_key}
use Rattle.graphml_scan.specs.Names.{is_among, AddsName}
use Rattle.graphml_scan.specs.declared.attributes.Attribute.{Attribute as LentAttribute}
use Rattle.graphml_scan.specs.Many.{Cut, many}
use Rattle.graphml_scan.specs.Tag.{Attribute, attribute_at, has_name, value_at, are_once, attributes_at}
use Rattle.graphml_scan.specs.AttributeValues.{attribute_of, attributes_of}
use Rattle.graphml_scan.proofs.ManyLaws.{many-none, many-some}
use Rattle.graphml_scan.proofs.LengthLaws.{attribute_shrinks}

drop_past : {X : Type 0} (xs : List X) (i : ℕ) → length xs ≤ i → drop i xs ≡ []
drop_past [] zero h = refl
drop_past [] (suc j) h = refl
drop_past (y ∷ ys) zero h = absurd (omega (arith, h))
drop_past (y ∷ ys) (suc j) h = drop_past ys j (omega (arith, h))

-- ---- the loop that reads attributes

-- attributes that were read before, and those that follow
abbrev pub after_front : List Attribute → Cut (List Attribute) → Cut (List Attribute)
after_front before found = (before ++ found.0, found.1)

pub front_more : (before : List LentAttribute) (bytes : List ℕ) (total : Cut (List Attribute)) (a : LentAttribute) (rest : List ℕ) → Some (attribute_of a, rest) ≡ attribute_at bytes → after_front (attributes_of before) (many attribute_at bytes) ≡ total → after_front (attributes_of (before ++ a ∷ [])) (many attribute_at rest) ≡ total
front_more before bytes total a rest is so_far =
    let one : after_front (attributes_of before) (many attribute_at bytes) ≡ after_front (attributes_of before ++ attribute_of a ∷ []) (many attribute_at rest) =
    rw (many-some attribute_at bytes (attribute_of a, rest) attribute_shrinks (sym is)) (ap {A = List Attribute} {B = Cut (List Attribute)} (λ xs. (xs, (many attribute_at rest).1)) (sym (append_assoc (attributes_of before) (attribute_of a ∷ []) (many attribute_at rest).0))) in
    rw (map_push attribute_of before a) (sym one ∙ so_far)

pub front_all : (before : List LentAttribute) (bytes : List ℕ) (total : Cut (List Attribute)) → None ≡ attribute_at bytes → after_front (attributes_of before) (many attribute_at bytes) ≡ total → (attributes_of before, bytes) ≡ total
front_all before bytes total none so_far =
    let one : after_front (attributes_of before) (many attribute_at bytes) ≡ (attributes_of before, bytes) = rw (many-none attribute_at bytes (sym none)) (ap {A = List Attribute} {B = Cut (List Attribute)} (λ xs. (xs, bytes)) (append-nil (attributes_of before))) in
    sym one ∙ so_far

pub one_shrinks : (bytes : List ℕ) (a : LentAttribute) (rest : List ℕ) → Some (attribute_of a, rest) ≡ attribute_at bytes → length rest < length bytes
one_shrinks bytes a rest is = attribute_shrinks bytes (attribute_of a, rest) (sym is)

pub attributes_is : (bytes : List ℕ) (found : Cut (List Attribute)) (once : Bool) → found ≡ many attribute_at bytes → once ≡ are_once [] found.0 → attributes_at bytes ≡ cond once (Some found) None
attributes_is bytes found once is test = rw (← is, test) refl

-- ---- whether no name stands twice

-- those before the place and those from it on
abbrev pub once_from : List LentAttribute → ℕ → Bool
once_from xs i = are_once (attributes_of (take i xs)) (attributes_of (drop i xs))

once_step : (xs : List LentAttribute) (i : ℕ) (a : LentAttribute) → i < length xs → a ≡ get_or xs i a → once_from xs i ≡ cond (has_name (attributes_of (take i xs)) a.name.now) false (once_from xs (i + 1))
once_step xs i a below is =
    let more : attributes_of (take (i + 1) xs) ≡ attributes_of (take i xs) ++ attribute_of a ∷ [] = rw (take_more xs i a below, ← is) (map_push attribute_of (take i xs) a) in
    rw (drop_more xs i a below, ← is, more) refl

pub once_more : (xs : List LentAttribute) (i : ℕ) (a : LentAttribute) (total : Bool) → i < length xs → a ≡ get_or xs i a → has_name (attributes_of (take i xs)) a.name.now ≡ false → once_from xs i ≡ total → once_from xs (i + 1) ≡ total
once_more xs i a total below is new so_far = sym (once_step xs i a below is ∙ rw new refl) ∙ so_far

pub once_stop : (xs : List LentAttribute) (i : ℕ) (a : LentAttribute) (total : Bool) → i < length xs → a ≡ get_or xs i a → has_name (attributes_of (take i xs)) a.name.now ≡ true → once_from xs i ≡ total → false ≡ total
once_stop xs i a total below is twice so_far = sym (once_step xs i a below is ∙ rw twice refl) ∙ so_far

pub once_all : (xs : List LentAttribute) (i : ℕ) (total : Bool) → length xs ≤ i → once_from xs i ≡ total → true ≡ total
once_all xs i total all so_far = let e : once_from xs i ≡ true = rw (drop_past xs i all) refl in sym e ∙ so_far

-- ---- the set of names

bytes_turn : (a b : List ℕ) → bytes_eq a b ≡ bytes_eq b a
bytes_turn a b = same_from_decides _ _ (bytes_eq-Decides a b) ((λ h. sym ((bytes_eq-Decides b a).0 h)), (λ h. (bytes_eq-Decides b a).1 (sym h)))

pub name_among : (xs : List Attribute) (name : List ℕ) → is_among (map (λ (a : Attribute). a.name) xs) name ≡ has_name xs name
name_among [] name = refl
name_among (x ∷ xs) name = rw (bytes_turn name x.name) (ap (λ b. bytes_eq x.name name || b) (name_among xs name))

pub among_keys : {K : Type 0} (f : K → List ℕ) (name : List ℕ) (ks : List K) → list_any (λ k. bytes_eq name (f k)) ks ≡ is_among (map f ks) name
among_keys f name [] = refl
among_keys f name (k ∷ ks) = ap (λ b. bytes_eq name (f k) || b) (among_keys f name ks)

pub name_added : {K : Type 0} (f : K → List ℕ) (new ks : List K) (k : K) (fresh : Bool) → fresh ≡ not (list_any (λ y. bytes_eq (f k) (f y)) ks) → new ≡ insert_key (λ x y. bytes_eq (f x) (f y)) ks k → AddsName (map f ks) (map f new) (f k) fresh
name_added {K} f new ks k fresh is keys = go fresh (list_any (λ y. bytes_eq (f k) (f y)) ks) refl is
  where
    go : (b there : Bool) → list_any (λ y. bytes_eq (f k) (f y)) ks ≡ there → b ≡ not there → AddsName (map f ks) (map f new) (f k) b
    go true true e h = absurd cc
    go false true e h = sym (among_keys f (f k) ks) ∙ e
    go false false e h = absurd cc
    go true false e h = (sym (among_keys f (f k) ks) ∙ e, rw keys (rw e (map_push f ks k)))

pub set_more : (xs : List LentAttribute) (i : ℕ) (a : LentAttribute) (old new : List (List ℕ)) (name : List ℕ) (fresh : Bool) → i < length xs → a ≡ get_or xs i a → name ≡ a.name.now → old ≡ map (λ (x : Attribute). x.name) (attributes_of (take i xs)) → AddsName old new name fresh → fresh ≡ true →
    (new ≡ map (λ (x : Attribute). x.name) (attributes_of (take (i + 1) xs))) × (has_name (attributes_of (take i xs)) a.name.now ≡ false)
set_more xs i a old new name fresh below is named before adds fine =
    let (lacks, added) = subst (λ (b : Bool). AddsName old new name b) fine adds in
    let more : attributes_of (take (i + 1) xs) ≡ attributes_of (take i xs) ++ attribute_of a ∷ [] = rw (take_more xs i a below, ← is) (map_push attribute_of (take i xs) a) in (
      added ∙ rw (before, named, more) (sym (map_push (λ (x : Attribute). x.name) (attributes_of (take i xs)) (attribute_of a))),
      sym (name_among (attributes_of (take i xs)) a.name.now) ∙ rw (before, named) at lacks,
    )

pub set_stop : (xs : List LentAttribute) (i : ℕ) (a : LentAttribute) (old new : List (List ℕ)) (name : List ℕ) (fresh : Bool) → name ≡ a.name.now → old ≡ map (λ (x : Attribute). x.name) (attributes_of (take i xs)) → AddsName old new name fresh → fresh ≡ false → has_name (attributes_of (take i xs)) a.name.now ≡ true
set_stop xs i a old new name fresh named before adds stale =
    let there : is_among old name ≡ true = subst (λ (b : Bool). AddsName old new name b) stale adds in
    sym (name_among (attributes_of (take i xs)) a.name.now) ∙ rw (before, named) at there

-- ---- a value in quotes, byte by byte

-- what stands before the quote, after what was read of it
abbrev pub value_after : List ℕ → ℕ → List ℕ → Option (Cut (List ℕ))
value_after front quote bytes = option_map (λ (cut : Cut (List ℕ)). (front ++ cut.0, cut.1)) (value_at quote bytes)
