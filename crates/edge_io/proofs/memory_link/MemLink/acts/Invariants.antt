use Rattle.edge_io.specs.KeptActs.{act_of}
use Rattle.edge_io.proofs.KeptLaws.{AreRest}
use Rattle.edge_io.proofs.memory_link.MemLink.acts.Given as goal

abbrev pub invariant-loop-mark : goal.invariant-loop-mark
invariant-loop-mark l = AreRest act_of l.marks l.bytes l.mark-index l.start l.acts
