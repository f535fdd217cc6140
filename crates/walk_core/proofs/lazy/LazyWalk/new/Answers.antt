use Rattle.walk_core.proofs.EdgeLaws.{AreKept-none, AreRight-none}
use Rattle.walk_core.proofs.lazy.LazyWalk.new.Goals as goal

pub invariant_of-graph : goal.invariant_of-graph
invariant_of-graph c = rw c.new-2.ensures (record { walk = c.in_ok-sets.ensures.fresh.walk; kept = AreKept-none; right = AreRight-none _ })
