use Rattle.graphml_text.proofs.JoinLaws.{none_left, whole_edges, named_labels}
use Rattle.graphml_text.proofs.graph.Graph.into_parts.Goals as goal

pub returns-then-is_empty : goal.returns-then-is_empty
returns-then-is_empty c =
    let none = none_left c.self.inside.named.items (rw c.as_slice.ensures.value at c.if-is_empty.ensures) in
    rw (← c.self.view_is) (whole_edges _ _ _ c.self.inside.named.items none c.self.invariant.joined)

pub moves_of-requires-clause-labels : goal.moves_of-requires-clause-labels
moves_of-requires-clause-labels c = rw c.deref.ensures.value (named_labels _ c.self.inside.named.items (rw (← c.self.view_is) at c.requires.labels))
