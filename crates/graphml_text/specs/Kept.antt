-- Private: what every reading keeps to.
use Rattle.std.specs.Prelude.{◌<◌, ◌≤◌, length, All, IfSome}
use Rattle.lts_base.specs.Alphabet.{IsLabel}
use Rattle.graphml_text.specs.Reading.{NamedEdge, Reading}
use Rattle.lts_base.specs.declared.limits.TheConstants.{MOST_MOVES, MOST_STATES}

-- the edge is one of Tau, or its label is a label's text
abbrev pub IsLabelled : NamedEdge → Type 0
IsLabelled e = IfSome e.label IsLabel

-- nodes and edges are within the limits, the open edge too; the start is a node; each edge has a label or Tau
pub record IsKept (m : Reading) : Type 0 where
  pub nodes : length m.nodes ≤ MOST_STATES
  pub edges : length m.edges ≤ MOST_MOVES
  pub room : IfSome m.draft (λ _. length m.edges < MOST_MOVES)
  pub marked : IfSome m.marked (λ s. s < length m.nodes)
  pub labels : All IsLabelled m.edges
