use Rattle.std.proofs.Common.{length, take, ◌-◌, ◌≤◌}
use Rattle.edge_io.specs.Outside.{AppendsTo, KeepsSink}
use Rattle.edge_io.proofs.put.put_all.Given as goal

abbrev pub invariant-loop-done : goal.invariant-loop-done
invariant-loop-done g l =
    record {
      within : l.done ≤ length l.bytes;
      front : AppendsTo (g.S.Sink.told l.fn.sink) (g.S.Sink.told l.sink) (take l.done l.bytes);
      keeps : KeepsSink (g.S.Sink.told l.fn.sink) (g.S.Sink.told l.sink);
    }

abbrev pub decreases-loop-done : goal.decreases-loop-done
decreases-loop-done g l = length l.bytes - l.done
