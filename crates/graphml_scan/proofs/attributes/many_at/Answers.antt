use Rattle.graphml_scan.proofs.TagLaws.{front_more, front_all, one_shrinks}
use Rattle.graphml_scan.proofs.attributes.many_at.Goals as goal

pub loop-attribute-smaller : goal.loop-attribute-smaller
loop-attribute-smaller c = one_shrinks _ c.in-Some.attribute _ (rw c.in-Some.is at c.in_ok-attribute.ensures)

pub loop-attribute-preserved : goal.loop-attribute-preserved
loop-attribute-preserved c = rw c.in_ok-push.ensures.items (front_more _ _ _ c.in-Some.attribute c.in-Some.after.now (rw c.in-Some.is at c.in_ok-attribute.ensures) c.loop-attribute.invariant)

pub returns : goal.returns
returns c = front_all _ _ _ (rw c.in_default.is at c.in_ok-attribute.ensures) c.loop-attribute.invariant
