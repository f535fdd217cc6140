use Rattle.std.proofs.Common.{refl}
use Rattle.graphml_text.proofs.JoinLaws.{node_held, node_edges}
use Rattle.graphml_text.proofs.graph.Graph.add_node.Goals as goal

pub invariant_of-self-2 : goal.invariant_of-self-2
invariant_of-self-2 c = rw c.in_ok-insert.ensures.ok (node_held _ _ _ _ _ _ c.self.invariant)

pub returns : goal.returns
returns c = rw (c.in_ok-insert.ensures.ok, ← c.self.view_is) (rw (node_edges _ _ _ _ c.self.invariant.joined) refl)
