-- Private: words between the pieces of the check of a relation.
use Rattle.std.specs.Prelude.{◌≡◌, ℕ, List, length, All, Contains, Bool, true, false, Option, MatchOption, ◌⊎◌, []}
use Rattle.lts_base.specs.declared.item.Item.{Item}
use Rattle.lts_base.specs.declared.item.Mode.{Mode}
use Rattle.lts_base.specs.declared.relation.Relation.{Relation}
use Rattle.lts_base.specs.System.{System, IsItemOf}
use Rattle.lts_base.specs.After.{Allows}
use Rattle.lts_base.specs.Next.{IsNext}
use Rattle.lts_base.specs.Reached.{Row, IsFine}
use Rattle.cert_check.specs.Checks.{IsListOf, IsPairOf, IsOpen, IsFirstOpen, ShowsMore}
use Rattle.lts_base.specs.Related.{IsClosedAt}

-- both systems have one alphabet, the pairs name lists of the relation, and its lists are lists of states
pub record IsRelationOf (i s : System) (relation : Relation) : Type 0 where
  pub inputs : s.inputs ≡ i.inputs
  pub outputs : s.outputs ≡ i.outputs
  pub pairs : All (IsPairOf (length relation.left) (length relation.right)) relation.pairs
  pub left : All (IsListOf i) relation.left
  pub right : All (IsListOf s) relation.right

-- the pair is closed at the item
abbrev pub IsClosedFor : Mode → System → System → List Row → Row → Item → Type 0
IsClosedFor mode i s rows row x = IsItemOf s x → Allows mode s row.right x → (left right : List ℕ) →
    IsNext i x row.left left → IsNext s x row.right right → (left ≡ []) ⊎ Contains rows (record { left = left; right = right })

-- whether the pair is closed at the item
abbrev pub TellsClosed : Mode → System → System → List Row → Row → Item → Bool → Type 0
TellsClosed mode i s rows row x true = IsClosedFor mode i s rows row x
TellsClosed mode i s rows row x false = IsOpen mode i s rows row x

-- the first item at which the pair is open, or none where it is closed at all items
abbrev pub TellsOpen : Mode → System → System → List Row → Row → Option Item → Type 0
TellsOpen mode i s rows row found = MatchOption found (IsClosedAt mode i s rows row) (IsFirstOpen mode i s rows row)

-- whether the pair's left list shows an item that its right list doesn't
abbrev pub TellsMore : System → System → Row → Bool → Type 0
TellsMore i s row true = ShowsMore i s row
TellsMore i s row false = IsFine i s row
