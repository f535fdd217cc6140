use Rattle.cert_check.proofs.AnswerLaws.{one_for_trace}
use Rattle.cert_check.proofs.trace.check_trace.Goals as goal

pub returns-clause-checked : goal.returns-clause-checked
returns-clause-checked c = rw (c.in_ok-imp_side.ensures.same, c.in_ok-spec_side.ensures.same, c.as_slice.ensures) at c.in_ok-checked.ensures

pub returns-clause-only : goal.returns-clause-only
returns-clause-only c = λ d is. one_for_trace c.args.mode c.args.imp.now c.args.spec.now _ _ _ d (returns-clause-checked c) is
