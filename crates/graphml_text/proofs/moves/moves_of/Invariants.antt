use Rattle.std.proofs.Common.{map, take, drop, List, ◌++◌, ◌+◌, ◌≡◌, length}
use Rattle.std.specs.List.{find}
use Rattle.graphml_text.specs.Reading.{NamedEdge}
use Rattle.graphml_text.specs.Document.{is_loose}
use Rattle.graphml_text.specs.MachineValues.{edge_of}
use Rattle.graphml_text.specs.Ends.{AreEdges, IsNear}
use Rattle.graphml_text.proofs.moves.moves_of.Given as goal

abbrev pub invariant-loop-edge : goal.invariant-loop-edge
invariant-loop-edge l =
    record {
      near : IsNear (map (λ v. v.items) l.nodes.keys) l.near;
      few : length l.parts.moves ≡ length l.initial.parts.moves + l.edge-index;
      done : (es : List NamedEdge) → AreEdges (map (λ v. v.items) l.nodes.keys) es l.initial.parts → AreEdges (map (λ v. v.items) l.nodes.keys) (es ++ map edge_of (take l.edge-index l.edges)) l.parts;
      rest : find (is_loose (map (λ v. v.items) l.nodes.keys)) (map edge_of (drop l.edge-index l.edges)) ≡ find (is_loose (map (λ v. v.items) l.nodes.keys)) (map edge_of l.edges);
    }
