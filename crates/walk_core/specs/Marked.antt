-- Private: what the sets of a walk have, as rows of bits.
use Rattle.std.specs.Prelude.{◌≡◌, ℕ, ◌<◌, ◌≤◌, List, [], length, slice_index_or as get_or}
use Rattle.lts_base.specs.System.{System}
use Rattle.state_sets.specs.Rows.{Table, IsRowOf, AreMasks, width_of}
use Rattle.walk_core.specs.Walked.{set_at}

-- the rows of the states, those of the first sets, and the row that is made next
pub record Marked : Type 0 where
  pub masks : Table
  pub rows : Table
  pub row : List ℕ

-- the rows of the states are right, and all rows have room for what there is to mark
pub record AreMade (s : System) (marks : Marked) : Type 0 where
  pub masks : AreMasks s marks.masks
  pub width : marks.rows.width ≡ width_of s
  pub row : length marks.row ≡ width_of s

-- the rows are those of the first of the sets
pub record AreMarksOf (s : System) (sets : List (List ℕ)) (marks : Marked) : Type 0 where
  pub made : AreMade s marks
  pub few : length marks.rows.rows ≤ length sets
  pub each : (k : ℕ) → k < length marks.rows.rows → IsRowOf s (set_at sets k) (get_or marks.rows.rows k [])
