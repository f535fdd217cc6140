use Rattle.std.proofs.Common.{◌∙◌, length-set}
use Rattle.lts_base.proofs.MarkLaws.{IsMarked-pop}
use Rattle.cert_check.proofs.marks.Marks.clear.Goals as goal

pub finds-preserved : goal.finds-preserved
finds-preserved c =
    (length-set _ _ _ ∙ c.finds.invariant.0, IsMarked-pop _ _ _ (rw c.in-Some.ensures.items at c.finds.invariant.1))
