use Rattle.std.proofs.Common.{◌-◌, length}
use Rattle.edge_io.specs.Streams.{KeepsStream}
use Rattle.line_link.specs.AtHand.{IsAhead}
use Rattle.line_link.specs.Hearing.{pending}
use Rattle.line_link.proofs.meet.meet.Given as goal

abbrev pub invariant-loop-stream : goal.invariant-loop-stream
invariant-loop-stream g l =
    record {
      ahead : IsAhead (pending (g.S.Stream.told l.fn.stream) l.fn.lines.bytes l.fn.is_over) (pending (g.S.Stream.told l.stream) l.lines.bytes l.is_over);
      keeps : KeepsStream (g.S.Stream.told l.fn.stream) (g.S.Stream.told l.stream);
    }

abbrev pub decreases-loop-stream : goal.decreases-loop-stream
decreases-loop-stream g l = 1025 - length l.lines.bytes
