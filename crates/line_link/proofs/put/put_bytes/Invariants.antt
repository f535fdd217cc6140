use Rattle.std.proofs.Common.{◌≡◌, ◌-◌, ◌≤◌, length, take}
use Rattle.edge_io.specs.Outside.{Gains}
use Rattle.edge_io.specs.Streams.{KeepsStream}
use Rattle.line_link.proofs.put.put_bytes.Given as goal

abbrev pub invariant-loop-done : goal.invariant-loop-done
invariant-loop-done g l =
    record {
      within : l.done ≤ length l.bytes;
      front : Gains (g.S.Stream.told l.fn.stream).written (g.S.Stream.told l.stream).written (take l.done l.bytes);
      answers : (g.S.Stream.told l.stream).answers ≡ (g.S.Stream.told l.fn.stream).answers;
      keeps : KeepsStream (g.S.Stream.told l.fn.stream) (g.S.Stream.told l.stream);
    }

abbrev pub decreases-loop-done : goal.decreases-loop-done
decreases-loop-done g l = length l.bytes - l.done
