use Rattle.std.proofs.Common.{◌∙◌, false, length-set}
use Rattle.lts_base.proofs.MarkLaws.{IsMarked-pop}
use Rattle.sim_core.proofs.finds.FoundStates.clear.Goals as goal

pub finds-preserved : goal.finds-preserved
finds-preserved c = (
  length-set _ _ _ ∙ c.finds.invariant.0,
  IsMarked-pop _ _ _ (rw c.in-Some.ensures.items at c.finds.invariant.1),
  rw (length-set c.finds.self-inside.marked.items c.in-Some.state false, c.in-Some.ensures.capacity) c.finds.invariant.2,
)
