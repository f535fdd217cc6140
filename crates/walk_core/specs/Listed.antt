-- Private: the edges as they are held.
use Rattle.std.specs.Prelude.{◌≡◌, ℕ, ◌+◌, ◌/◌, ◌<◌, eqb, List, length, Option, Some, ◌⊎◌, slice_index_or as get_or}
use Rattle.std.specs.Map.{lookup}
use Rattle.walk_core.specs.declared.node.Node.{Node}
use Rattle.walk_core.specs.Edges.{Edge}

-- the edges, and how many more fit in either part with no further memory
pub record Listed : Type 0 where
  pub edges : List Edge
  pub run_room : ℕ
  pub rest_room : ℕ

-- the upper parts of the packed edges ascend
abbrev pub IsAscending : List ℕ → Type 0
IsAscending run = (j k : ℕ) (d : ℕ) → j < k → k < length run → get_or run j d / 16777216 < get_or run k d / 16777216

-- the upper part is above those of all packed edges
abbrev pub IsAbove : List ℕ → ℕ → Type 0
IsAbove run head = (j : ℕ) (d : ℕ) → j < length run → get_or run j d / 16777216 < head

-- there is one edge more, which has this number and answer, and all others are as before
pub record IsInserted (old new : List Edge) (key : ℕ) (to : Option Node) : Type 0 where
  pub longer : length new ≡ length old + 1
  pub there : lookup (eqb key) new ≡ Some to
  pub kept : (q : ℕ) (u : Option Node) → lookup (eqb q) old ≡ Some u → lookup (eqb q) new ≡ Some u
  pub only : (q : ℕ) (u : Option Node) → lookup (eqb q) new ≡ Some u → (lookup (eqb q) old ≡ Some u) ⊎ ((q ≡ key) × (u ≡ to))
