use Rattle.lts_base.proofs.MoveLaws.{AreFirstOffsets}
use Rattle.lts_base.proofs.system.offsets_of.Given as goal

abbrev pub invariant-loop-state : goal.invariant-loop-state
invariant-loop-state l = AreFirstOffsets l.state l.moves l.offsets.items
