-- Promise: the edges that a walk keeps.
use Rattle.std.specs.Prelude.{◌≡◌, ℕ, ◌+◌, ◌*◌, ◌<◌, ◌≤◌, eqb, List, [], length, Option, Some, None, ◌⊎◌}
use Rattle.std.specs.Map.{lookup, keys_of}
use Rattle.std.specs.List.{IsDistinct}
use Rattle.lts_base.specs.declared.item.Item.{Item}
use Rattle.lts_base.specs.System.{IsItemOf}
use Rattle.lts_base.specs.Next.{IsNext}
use Rattle.lts_base.specs.Order.{place}
use Rattle.walk_core.specs.declared.edges.TheConstants.{MOST_EDGES}
use Rattle.walk_core.specs.declared.node.Node.{Node}
use Rattle.walk_core.specs.Walked.{Walked, set_at}

-- an edge: a node and an item, as one number, and the answer of the step
abbrev pub Edge : Type 0
Edge = ℕ × Option Node

-- a walk, how many steps it took, modulo 2^64, and the edges that it keeps
pub record Kept : Type 0 where
  pub walked : Walked
  pub taken : ℕ
  pub edges : List Edge

-- a node and an item as one number; different ones of a system have different numbers
abbrev pub edge_key : ℕ → Item → ℕ
edge_key k x = k * 4294967296 + place 4294967295 x

-- the answer of the edge of this node and item, if there is one
abbrev pub answer_at : List Edge → ℕ → Item → Option (Option Node)
answer_at edges k x = lookup (eqb (edge_key k x)) edges

-- no node and item stands twice, and there are at most so many edges
pub record AreKept (edges : List Edge) : Type 0 where
  pub once : IsDistinct eqb (keys_of edges)
  pub few : length edges ≤ MOST_EDGES

-- the step by the item from node k answered `to`, and its edge is there with this answer, or no more edges are kept; no edge was
-- removed or changed, and no other was added
pub record KeepsEdge (old new : List Edge) (k : ℕ) (x : Item) (to : Option Node) : Type 0 where
  pub there : (answer_at new k x ≡ Some to) ⊎ (length new ≡ MOST_EDGES)
  pub kept : (j : ℕ) (y : Item) (u : Option Node) → answer_at old j y ≡ Some u → answer_at new j y ≡ Some u
  pub only : (j : ℕ) (y : Item) (u : Option Node) → answer_at new j y ≡ Some u → (answer_at old j y ≡ Some u) ⊎ ((edge_key j y ≡ edge_key k x) × (u ≡ to))
  pub count : (length new ≡ length old) ⊎ (length new ≡ length old + 1)

-- a step by the item from node k leads to this node of the walk, or nowhere
abbrev pub IsAnswer : Walked → ℕ → Item → Option Node → Type 0
IsAnswer w k x None = IsNext w.system x (set_at w.sets k) []
IsAnswer w k x (Some n) = (n.0 < length w.sets) × IsNext w.system x (set_at w.sets k) (set_at w.sets n.0)

-- each edge is that of a node of the walk, with the answer of a step
pub record AreRight (w : Walked) (edges : List Edge) : Type 0 where
  pub each : (k : ℕ) (x : Item) (to : Option Node) → IsItemOf w.system x → answer_at edges k x ≡ Some to → (k < length w.sets) × IsAnswer w k x to
