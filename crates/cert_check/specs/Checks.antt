-- Promise: what the answers of the two checks mean.
use Rattle.std.specs.Prelude.{◌≡◌, ℕ, ◌+◌, ◌<◌, ◌≤◌, List, [], length, take, All, Contains}
use Rattle.std.specs.List.Sorted.{IsStrictlyIncreasing}
use Rattle.lts_base.specs.declared.item.Item.{Item}
use Rattle.lts_base.specs.declared.item.Mode.{Mode}
use Rattle.lts_base.specs.declared.relation.Relation.{Relation}
use Rattle.lts_base.specs.System.{System, IsItemOf, label_count}
use Rattle.lts_base.specs.After.{IsSetAfter, Shows, Allows, ShowsAfter}
use Rattle.lts_base.specs.Next.{IsNext}
use Rattle.lts_base.specs.Conformance.{IsAllowed, IsViolation}
use Rattle.lts_base.specs.Order.{place}
use Rattle.lts_base.specs.Reached.{Row, row_at, IsFine}
use Rattle.lts_base.specs.Related.{rows_of, IsClosedAt, IsValid}
use Rattle.cert_check.specs.declared.checked.Checked.{Checked}
use Rattle.cert_check.specs.declared.checked.Checked.TheVariants.{Accepted, Start, Outputs, NotClosed, NotAllowed, NotShown, Allowed}

-- the list has states of the system, in strictly ascending order
pub record IsListOf (s : System) (list : List ℕ) : Type 0 where
  pub rising : IsStrictlyIncreasing list
  pub within : All (λ q. q < s.states) list

-- the pair names a left list and a right list, of which there are this many
abbrev pub IsPairOf : ℕ → ℕ → ℕ × ℕ → Type 0
IsPairOf left right pair = (pair.0 < left) × (pair.1 < right)

-- some pair holds the two opening sets
abbrev pub HasOpening : System → System → List Row → Type 0
HasOpening i s rows = (left right : List ℕ) → IsSetAfter i [] left → IsSetAfter s [] right → Contains rows (record { left = left; right = right })

-- no pair holds the two opening sets
pub record LacksOpening (i s : System) (rows : List Row) : Type 0 where
  pub left : List ℕ
  pub right : List ℕ
  pub left_set : IsSetAfter i [] left
  pub right_set : IsSetAfter s [] right
  pub absent : ¬ Contains rows (record { left = left; right = right })

-- some pair holds the two opening sets, and the first k pairs are fine and closed
pub record IsValidTo (mode : Mode) (i s : System) (rows : List Row) (k : ℕ) : Type 0 where
  pub opening : HasOpening i s rows
  pub fine : (j : ℕ) → j < k → IsFine i s (row_at rows j)
  pub closed : (j : ℕ) → j < k → IsClosedAt mode i s rows (row_at rows j)

-- the left list shows an item that the right one doesn't
abbrev pub ShowsMore : System → System → Row → Type 0
ShowsMore i s row = (x : Item) × Shows i row.left x × ¬ Shows s row.right x

-- the item, one of the alphabet, is allowed by the right list, and the two lists that it leads to are in no pair, though the
-- left one isn't empty
pub record IsOpen (mode : Mode) (i s : System) (rows : List Row) (row : Row) (x : Item) : Type 0 where
  pub item : IsItemOf s x
  pub allowed : Allows mode s row.right x
  pub left : List ℕ
  pub right : List ℕ
  pub left_next : IsNext i x row.left left
  pub right_next : IsNext s x row.right right
  pub some : ¬ (left ≡ [])
  pub absent : ¬ Contains rows (record { left = left; right = right })

-- the item is the first one at which the pair is open
pub record IsFirstOpen (mode : Mode) (i s : System) (rows : List Row) (row : Row) (x : Item) : Type 0 where
  pub here : IsOpen mode i s rows row x
  pub before : (y : Item) → place (label_count s) y < place (label_count s) x → ¬ IsOpen mode i s rows row y

-- pair number k, from 0, is the first at fault: its left list shows more than its right list
pub record IsFirstShowingMore (mode : Mode) (i s : System) (rows : List Row) (k : ℕ) : Type 0 where
  pub before : IsValidTo mode i s rows k
  pub within : k < length rows
  pub more : ShowsMore i s (row_at rows k)

-- pair number k, from 0, is the first at fault: it is fine, and it is open at the item, and at none before it
pub record IsFirstNotClosed (mode : Mode) (i s : System) (rows : List Row) (k : ℕ) (x : Item) : Type 0 where
  pub before : IsValidTo mode i s rows k
  pub within : k < length rows
  pub fine : IsFine i s (row_at rows k)
  pub open_at : IsFirstOpen mode i s rows (row_at rows k) x

-- what the answer to a relation says
abbrev pub IsCheckedRelation : Mode → System → System → Relation → Checked → Type 0
IsCheckedRelation mode i s relation Accepted = IsValid mode i s (rows_of relation)
IsCheckedRelation mode i s relation Start = LacksOpening i s (rows_of relation)
IsCheckedRelation mode i s relation (Outputs number) = (k : ℕ) × (number ≡ k + 1) × IsFirstShowingMore mode i s (rows_of relation) k
IsCheckedRelation mode i s relation (NotClosed number x) = (k : ℕ) × (number ≡ k + 1) × IsFirstNotClosed mode i s (rows_of relation) k x
IsCheckedRelation mode i s relation (NotAllowed number) = ⊥
IsCheckedRelation mode i s relation NotShown = ⊥
IsCheckedRelation mode i s relation Allowed = ⊥

-- the first k items of the trace aren't an allowed trace, and all shorter prefixes are
pub record IsFirstNotAllowed (mode : Mode) (s : System) (trace : List Item) (k : ℕ) : Type 0 where
  pub within : k ≤ length trace
  pub before : (j : ℕ) → j < k → IsAllowed mode s (take j trace)
  pub fault : ¬ IsAllowed mode s (take k trace)

-- what the answer to a trace and an item says
abbrev pub IsCheckedTrace : Mode → System → System → List Item → Item → Checked → Type 0
IsCheckedTrace mode i s trace x Accepted = IsViolation mode i s trace x
IsCheckedTrace mode i s trace x (NotAllowed number) = IsFirstNotAllowed mode s trace number
IsCheckedTrace mode i s trace x NotShown = IsAllowed mode s trace × ¬ ShowsAfter i trace x
IsCheckedTrace mode i s trace x Allowed = IsAllowed mode s trace × ShowsAfter i trace x × ShowsAfter s trace x
IsCheckedTrace mode i s trace x Start = ⊥
IsCheckedTrace mode i s trace x (Outputs number) = ⊥
IsCheckedTrace mode i s trace x (NotClosed number y) = ⊥
