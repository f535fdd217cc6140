use Rattle.std.proofs.Common.{◌∙◌, sym}
use Rattle.graphml_text.proofs.StackLaws.{adds_nothing}
use Rattle.graphml_text.proofs.step.collects_inside.Goals as goal

pub returns-in-Some : goal.returns-in-Some
returns-in-Some c other text = adds_nothing c.args.stack.now c.in-Some.element.now text (sym c.in-Some.ensures.value) (sym c.collects.ensures ∙ other)
