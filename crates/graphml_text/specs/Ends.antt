-- Private: what is made of the edges at the end.
use Rattle.std.specs.Prelude.{◌≡◌, ℕ, true, false, List, length, map, All, Option, Some, None, IfSome, ◌⊎◌, Vec}
use Rattle.std.specs.Global.{Global}
use Rattle.std.specs.List.{find}
use Rattle.lts_base.specs.Alphabet.{text_at}
use Rattle.lts_base.specs.Raw.{RawSystem}
use Rattle.aut_text.specs.Parts.{Parts, named_moves, AddsMove}
use Rattle.aut_text.specs.Reading.{IsWithin}
use Rattle.graphml_text.specs.declared.error.GraphError.{GraphError}
use Rattle.graphml_text.specs.declared.error.GraphError.TheVariants.{UnknownNode, Memory}
use Rattle.graphml_text.specs.declared.edge.NamedEdge.{NamedEdge as HeldEdge}
use Rattle.graphml_text.specs.MachineValues.{edge_of, ids_of}
use Rattle.graphml_text.specs.declared.moves.Ends.{Ends}
use Rattle.graphml_text.specs.Reading.{NamedEdge}
use Rattle.graphml_text.specs.Document.{is_loose, move_of, place_of}

-- the parts have the move of this edge, which joins nodes, at the end
abbrev pub AddsEdge : List (List ℕ) → NamedEdge → Parts → Parts → Type 0
AddsEdge nodes e old new = (is_loose nodes e ≡ false) × AddsMove old new (move_of nodes e) × IsWithin (length nodes) (move_of nodes e)

-- the same, of ids and an edge of the reader
abbrev pub Joins : List (Vec ℕ Global) → HeldEdge → Parts → Parts → Type 0
Joins ids e old new = AddsEdge (ids_of ids) (edge_of e) old new

-- an end of the edge is no node, or memory ran out
abbrev pub IsEdgeFault : List (List ℕ) → NamedEdge → GraphError → Type 0
IsEdgeFault nodes e f = (f ≡ Memory) ⊎ ((is_loose nodes e ≡ true) × (f ≡ UnknownNode e.at))

-- the parts have the moves of these edges, which all join nodes
pub record AreEdges (nodes : List (List ℕ)) (edges : List NamedEdge) (p : Parts) : Type 0 where
  pub joined : find (is_loose nodes) edges ≡ None
  pub moves : named_moves p ≡ map (move_of nodes) edges
  pub within : All (IsWithin (length nodes)) (named_moves p)
  pub few : length p.moves ≡ length edges

-- the first edge with an end that is no node, or memory ran out
abbrev pub IsEdgesFault : List (List ℕ) → List NamedEdge → GraphError → Type 0
IsEdgesFault nodes edges f = (f ≡ Memory) ⊎ ((e : NamedEdge) × (find (is_loose nodes) edges ≡ Some e) × (f ≡ UnknownNode e.at))

-- the system of the parts
abbrev pub system_of : ℕ → ℕ → Parts → RawSystem
system_of states start p = record { states = states; start = start; labels = p.labels; moves = p.moves }

-- the ends of the edge are the nodes at these places
pub record HasEnds (nodes : List (List ℕ)) (e : NamedEdge) (ends : Ends) : Type 0 where
  pub source : place_of nodes e.source ≡ Some ends.from
  pub target : place_of nodes e.target ≡ Some ends.to

-- the place is that of the id that stands there
abbrev pub IsNear : List (List ℕ) → Option ℕ → Type 0
IsNear nodes near = IfSome near (λ place. place_of nodes (text_at nodes place) ≡ Some place)
