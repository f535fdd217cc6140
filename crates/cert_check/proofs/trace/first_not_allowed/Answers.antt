use Rattle.std.proofs.Common.{◌+◌, ap, ◌∙◌, refl}
use Rattle.std.proofs.lemmas.Bool.{iff_false}
use Rattle.cert_check.proofs.TraceLaws.{allowed_to-none, allowed_to-more, allowed_to-off}
use Rattle.cert_check.proofs.trace.first_not_allowed.Goals as goal

pub items-init : goal.items-init
items-init c = record {
  marks = c.in_ok-set.ensures.states ∙ c.in_ok-marks.ensures.states ∙ c.states-states.ensures.states;
  place = refl;
  within = rw c.lts.ensures at c.in_ok-set.ensures.within;
  walked = allowed_to-none _ c.args.spec.now _ _ (rw c.lts.ensures at c.in_ok-set.ensures.opening);
}

pub returns-then-not-allows : goal.returns-then-not-allows
returns-then-not-allows c =
    allowed_to-off _ _ _ _ _ _ _ c.states-states.ensures.system c.items-test.true (rw c.deref.ensures.value at (iff_false c.allows.ensures c.if-not-allows.true))
    (ap (λ z. z + 1) c.items.invariant.place) c.items.invariant.walked

pub items-preserved : goal.items-preserved
items-preserved c = record {
  marks = c.in_ok-set-2.ensures.states ∙ c.items.invariant.marks;
  place = ap (λ z. z + 1) c.items.invariant.place;
  within = c.in_ok-set-2.ensures.within;
  walked = allowed_to-more _ _ _ _ _ _ _ c.states-states.ensures.system c.items-test.true (c.requires.items _ _ c.items-test.true)
      (rw c.deref.ensures.value at (c.allows.ensures.0 c.if-not-allows.false)) (rw c.deref-in-items.ensures.value at c.in_ok-set-2.ensures.next) c.items.invariant.walked;
}
