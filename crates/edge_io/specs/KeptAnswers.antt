-- Private: how a stream in memory keeps its answers.
use Rattle.std.specs.Prelude.{ℕ, List}
use Rattle.edge_io.specs.declared.content.Given.{Given}
use Rattle.edge_io.specs.declared.content.Given.TheVariants.{Bytes, Idle, End}
use Rattle.edge_io.specs.declared.givens.Shape.{Shape}
use Rattle.edge_io.specs.declared.givens.Shape.TheVariants.{Some as SomeBytes, Tick, Over}
use Rattle.edge_io.specs.Kept.{Entry}

-- the answer of a shape with its bytes
abbrev pub given_of : Entry Shape → Given
given_of entry = go entry.head entry.text
  where
    go : Shape → List ℕ → Given
    go SomeBytes text = Bytes text
    go Tick text = Idle
    go Over text = End
