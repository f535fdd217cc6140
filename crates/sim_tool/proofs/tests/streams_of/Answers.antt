use Rattle.std.proofs.lemmas.List.Elements.{All-push}
use Rattle.edge_io.specs.Doors.{IsNewStream}
use Rattle.edge_io.specs.StreamsInMemory.{told_of_stream}
use Rattle.sim_tool.proofs.tests.streams_of.Goals as goal

pub streams-preserved : goal.streams-preserved
streams-preserved c = rw c.in_ok-push.ensures.ok (All-push (λ stream. IsNewStream (told_of_stream stream)) c.streams.streams c.in_ok-stream.stream c.streams.invariant c.in_ok-stream.ensures)
