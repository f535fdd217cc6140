use Rattle.aut_text.proofs.PlainLaws.{AreDigits-step}
use Rattle.aut_text.proofs.plain.number.Goals as goal

pub loop-rest-preserved : goal.loop-rest-preserved
loop-rest-preserved c = AreDigits-step c.args.bytes.now c.loop-rest.rest.now c.loop-rest.value c.in-Some.digit c.loop-rest.invariant c.in-len1-up.len_at_least c.in-Some.ensures.0 c.in-Some.ensures.1 c.if-value.false
