-- Private: what is kept of sets and the edges between them.
use Rattle.std.specs.Prelude.{List}
use Rattle.walk_core.specs.Walked.{Walked, IsWalk}
use Rattle.walk_core.specs.Edges.{Edge, AreKept, AreRight}

-- sets and edges
pub record Mapped : Type 0 where
  pub walked : Walked
  pub edges : List Edge

-- the sets are sound, the edges are those of steps, and there are few of them
pub record IsMapped (w : Walked) (edges : List Edge) : Type 0 where
  pub walk : IsWalk w
  pub kept : AreKept edges
  pub right : AreRight w edges
