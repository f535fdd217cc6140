-- The nodes of the reader, by the texts of their ids.
use Rattle.std.proofs.Common.{◌≡◌, ℕ, ◌+◌, Bool, true, false, cond, not, ◌||◌, List, [], ◌∷◌, ◌++◌, map, refl, sym, ap, ◌∙◌}
use Rattle.std.specs.Cmp.{IsEquivalence}
use Rattle.std.specs.List.{list_any, position, position_or_len, prefix_len, IsDistinct}
use Rattle.std.specs.Str.{bytes_eq}
use Rattle.std.proofs.lemmas.List.{length-map, map_push}
use Rattle.std.proofs.lemmas.Bool.Decides.{same_from_decides}
use Rattle.std.proofs.lemmas.Slice.Eq.{bytes_eq-Decides}
use Rattle.indexmap.specs.IndexSet.{insert_key, insert_all}
use Rattle.indexmap.proofs.SetLemmas.{set_all_distinct}
use Rattle.graphml_text.specs.Element.{has, with_id}
use Rattle.graphml_text.specs.Document.{place_of}

pub has_keys : {K : Type 0} (f : K → List ℕ) (id : List ℕ) (ks : List K) → list_any (λ k. bytes_eq id (f k)) ks ≡ has (map f ks) id
has_keys f id [] = refl
has_keys f id (k ∷ ks) = ap (λ b. bytes_eq id (f k) || b) (has_keys f id ks)

prefix_keys : {K : Type 0} (f : K → List ℕ) (p : List ℕ → Bool) (ks : List K) → prefix_len (λ k. p (f k)) ks ≡ prefix_len p (map f ks)
prefix_keys f p [] = refl
prefix_keys f p (k ∷ ks) = ap (λ n. cond (p (f k)) (1 + n) 0) (prefix_keys f p ks)

pub place_keys : {K : Type 0} (f : K → List ℕ) (id : List ℕ) (ks : List K) → position (λ k. bytes_eq id (f k)) ks ≡ place_of (map f ks) id
place_keys f id ks =
    let same : position_or_len (λ k. bytes_eq id (f k)) ks ≡ position_or_len (bytes_eq id) (map f ks) = prefix_keys f (λ x. not (bytes_eq id x)) ks in
    rw (length-map, same) refl

pub node_keys : {K : Type 0} (f : K → List ℕ) (new ks : List K) (k : K) → new ≡ insert_key (λ x y. bytes_eq (f x) (f y)) ks k → map f new ≡ with_id (map f ks) (f k)
node_keys {K} f new ks k is = rw is (rw (← has_keys f (f k) ks) (go (list_any (λ y. bytes_eq (f k) (f y)) ks)))
  where
    go : (b : Bool) → map f (cond b ks (ks ++ k ∷ [])) ≡ cond b (map f ks) (map f ks ++ f k ∷ [])
    go true = refl
    go false = map_push f ks k

bytes_equivalence : IsEquivalence bytes_eq
bytes_equivalence = record {
  refl = λ x. (bytes_eq-Decides x x).1 refl;
  symm = λ x y. same_from_decides _ _ (bytes_eq-Decides x y) ((λ h. sym ((bytes_eq-Decides y x).0 h)), (λ h. (bytes_eq-Decides y x).1 (sym h)));
  congr = λ x y z same. ap (λ w. bytes_eq w z) ((bytes_eq-Decides x y).0 same);
}

-- distinct keys that are put into an empty set, one after another, are its keys
pub moved_keys : {K : Type 0} (f : K → List ℕ) (new ks none : List K) → none ≡ [] → IsDistinct (λ x y. bytes_eq (f x) (f y)) ks → new ≡ insert_all (λ x y. bytes_eq (f x) (f y)) none ks → new ≡ ks
moved_keys {K} f new ks none empty distinct is =
    let laws : IsEquivalence (λ x y. bytes_eq (f x) (f y)) = record {
      refl = λ x. bytes_equivalence.refl (f x);
      symm = λ x y. bytes_equivalence.symm (f x) (f y);
      congr = λ x y z. bytes_equivalence.congr (f x) (f y) (f z);
    } in
    is ∙ ap (λ l. insert_all (λ x y. bytes_eq (f x) (f y)) l ks) empty ∙ set_all_distinct laws [] ks distinct
