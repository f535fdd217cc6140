-- Private: the nodes and edges that were read.
use Rattle.std.specs.Prelude.{ℕ, List}
use Rattle.graphml_text.specs.Reading.{NamedEdge}

-- the ids of the nodes, in order, and the edges that ended, in order
pub record Graph : Type 0 where
  pub ids : List (List ℕ)
  pub edges : List NamedEdge
