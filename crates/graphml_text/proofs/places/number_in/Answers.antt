use Rattle.std.proofs.Common.{◌∙◌, sym}
use Rattle.graphml_text.proofs.PlaceLaws.{onto_start, digits_more, digits_stop}
use Rattle.graphml_text.proofs.places.number_in.Goals as goal

pub loop-rest-init : goal.loop-rest-init
loop-rest-init c = onto_start c.args.digits.now

pub returns-in_default-with_digit : goal.returns-in_default-with_digit
returns-in_default-with_digit c = digits_stop c.loop-rest.rest.now c.args.digits.now c.loop-rest.number c.in-len1-up.len_at_least c.loop-rest.invariant (sym c.with_digit.ensures ∙ c.in_default-with_digit.is)

pub loop-rest-preserved : goal.loop-rest-preserved
loop-rest-preserved c = digits_more c.loop-rest.rest.now c.args.digits.now c.loop-rest.number c.in-Some.next c.in-len1-up.len_at_least c.loop-rest.invariant (sym c.with_digit.ensures ∙ c.in-Some.is)
