use Rattle.edge_io.specs.DoorsInMemory.{AreNewStreams}
use Rattle.sim_tool.proofs.tests.streams_of.Given as goal

abbrev pub invariant-streams : goal.invariant-streams
invariant-streams l = AreNewStreams l.streams
