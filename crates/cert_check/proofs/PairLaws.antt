-- Laws on the pairs of a relation and the pairs of lists that they name.
use Rattle.std.proofs.Common.{◌≡◌, ℕ, ◌<◌, List, length, get_or, Contains, sym, ap, ◌∙◌}
use Rattle.std.proofs.lemmas.List.{get_or-map, length-map}
use Rattle.lts_base.specs.declared.relation.Relation.{Relation}
use Rattle.lts_base.specs.Reached.{Row}
use Rattle.lts_base.specs.Related.{row_of, rows_of}
use Rattle.cert_check.specs.Index.{Names}

-- two lists make one pair
pub row_same : (left right first second : List ℕ) → left ≡ first → right ≡ second → ◌≡◌ {A = Row} (record { left = left; right = right }) (record { left = first; right = second })
row_same left right first second e f =
    ap {A = List ℕ} {B = Row} (λ ps. record { left = ps; right = right }) e ∙ ap {A = List ℕ} {B = Row} (λ ps. record { left = first; right = ps }) f

-- the pairs of lists are as many as the pairs of numbers
pub rows_length : (relation : Relation) → length (rows_of relation) ≡ length relation.pairs
rows_length relation = length-map relation.pairs (row_of relation.left relation.right)

-- a pair of lists is what the pair of numbers at its place names
pub row_named : (relation : Relation) (k : ℕ) (d : ℕ × ℕ) (e : Row) (left right : List ℕ) → k < length relation.pairs → Names relation (get_or relation.pairs k d) left right →
    get_or (rows_of relation) k e ≡ record { left = left; right = right }
row_named relation k d e left right below names =
    get_or-map (row_of relation.left relation.right) relation.pairs k d e below ∙ row_same _ _ _ _ names.first names.second

-- what the pair of numbers names is a pair of the relation
pub named_contained : (relation : Relation) (k : ℕ) (d : ℕ × ℕ) (left right : List ℕ) → k < length relation.pairs → Names relation (get_or relation.pairs k d) left right →
    Contains (rows_of relation) (record { left = left; right = right })
named_contained relation k d left right below names =
    (k, rw (rows_length relation) below, row_named relation k d (record { left = left; right = right }) left right below names)

-- a pair of the relation is what some pair of numbers names
pub contained_named : (relation : Relation) (left right : List ℕ) → Contains (rows_of relation) (record { left = left; right = right }) →
    (k : ℕ) × (k < length relation.pairs) × ((d : ℕ × ℕ) → Names relation (get_or relation.pairs k d) left right)
contained_named relation left right (k, below, at) =
    let within : k < length relation.pairs = rw (rows_length relation) at below in (
      k,
      within,
      λ d.
          let e : row_of relation.left relation.right (get_or relation.pairs k d) ≡ record { left = left; right = right } =
          sym (get_or-map (row_of relation.left relation.right) relation.pairs k d (record { left = left; right = right }) within) ∙ at in
          record {
            first = ap {A = Row} {B = List ℕ} (λ r. r.left) e;
            second = ap {A = Row} {B = List ℕ} (λ r. r.right) e;
          },
    )
