-- Promise: valid relations between lists of states: what a certificate of conformance has to be.
use Rattle.std.specs.Prelude.{◌≡◌, ℕ, List, [], map, Contains, ◌⊎◌, slice_index_or as get_or}
use Rattle.lts_base.specs.declared.item.Item.{Item}
use Rattle.lts_base.specs.declared.item.Mode.{Mode}
use Rattle.lts_base.specs.declared.relation.Relation.{Relation}
use Rattle.lts_base.specs.System.{System, IsItemOf}
use Rattle.lts_base.specs.After.{IsSetAfter, Allows}
use Rattle.lts_base.specs.Next.{IsNext}
use Rattle.lts_base.specs.Reached.{Row, IsFine}

-- the two lists that a pair of numbers names
abbrev pub row_of : List (List ℕ) → List (List ℕ) → ℕ × ℕ → Row
row_of left right pair = record { left = get_or left pair.0 []; right = get_or right pair.1 [] }

-- the pairs of lists of a relation, in order
abbrev pub rows_of : Relation → List Row
rows_of relation = map (row_of relation.left relation.right) relation.pairs

-- for each item that the right list allows, what it leads to on the left is empty, or the two lists that it leads to are a
-- pair of the relation
abbrev pub IsClosedAt : Mode → System → System → List Row → Row → Type 0
IsClosedAt mode i s rows row = (x : Item) → IsItemOf s x → Allows mode s row.right x → (left right : List ℕ) →
    IsNext i x row.left left → IsNext s x row.right right → (left ≡ []) ⊎ Contains rows (record { left = left; right = right })

-- the relation is valid: it has the pair of the two opening sets, each pair is fine, and each pair is closed
pub record IsValid (mode : Mode) (i s : System) (rows : List Row) : Type 0 where
  pub opening : (left right : List ℕ) → IsSetAfter i [] left → IsSetAfter s [] right → Contains rows (record { left = left; right = right })
  pub fine : (row : Row) → Contains rows row → IsFine i s row
  pub closed : (row : Row) → Contains rows row → IsClosedAt mode i s rows row
