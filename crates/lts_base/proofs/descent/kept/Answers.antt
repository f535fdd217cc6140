use Rattle.lts_base.proofs.DescentEnds.{AreKept-found}
use Rattle.lts_base.proofs.descent.kept.Goals as goal

pub returns-then-blocks-count : goal.returns-then-blocks-count
returns-then-blocks-count c = AreKept-found _ _ _ _ c.requires c.counted-test.true c.counted.invariant.within c.if-blocks-count.true c.counted.invariant.above
