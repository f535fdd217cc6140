use Rattle.std.proofs.Common.{◌∙◌}
use Rattle.cert_check.proofs.TraceLaws.{set_at-more}
use Rattle.cert_check.proofs.trace.set_after.Goals as goal

pub items-preserved : goal.items-preserved
items-preserved c = record {
  marks = c.in_ok-set-2.ensures.states ∙ c.items.invariant.marks;
  within = c.in_ok-set-2.ensures.within;
  walked = set_at-more _ _ _ _ _ _ c.items-test.true (rw c.deref.ensures.value at c.in_ok-set-2.ensures.next) c.items.invariant.walked;
}
