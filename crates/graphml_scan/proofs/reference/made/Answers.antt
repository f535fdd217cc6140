use Rattle.std.proofs.Common.{sym}
use Rattle.graphml_scan.proofs.ReferenceLaws.{with_text-start, pushed, push_shrinks, push_none, pushed_all}
use Rattle.graphml_scan.proofs.reference.made.Goals as goal

pub loop-rest-init : goal.loop-rest-init
loop-rest-init c = rw c.new-text.ensures.items (with_text-start _)

pub returns-in_default : goal.returns-in_default
returns-in_default c = push_none _ _ _ (sym c.loop-rest-test.ensures) (rw c.in_default.is at c.in_ok-after.ensures) c.loop-rest.invariant

pub loop-rest-smaller : goal.loop-rest-smaller
loop-rest-smaller c = push_shrinks _ _ _ _ (rw c.in-Some.is at c.in_ok-after.ensures)

pub loop-rest-preserved : goal.loop-rest-preserved
loop-rest-preserved c = pushed _ _ _ _ _ (rw c.in-Some.is at c.in_ok-after.ensures) c.loop-rest.invariant

pub returns : goal.returns
returns c = pushed_all _ _ _ (sym c.loop-rest-test.ensures) c.loop-rest.invariant
