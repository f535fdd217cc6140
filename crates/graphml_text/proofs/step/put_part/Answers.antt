use Rattle.std.proofs.Common.{sym, ◌-◌, rules}
use Rattle.std.specs.Vec.{vec_len}
use Rattle.std.proofs.lemmas.Bool.{eqb-true}
use Rattle.graphml_text.specs.MachineValues.{open_of}
use Rattle.graphml_text.proofs.StackLaws.{put_last, first_text}
use Rattle.graphml_text.proofs.step.put_part.Goals as goal

pub returns-clause-put : goal.returns-clause-put
returns-clause-put c _ =
    put_last c.args.stack.now.items (vec_len c.args.stack.now - 1) c.in-Some.element.now _ c.args.more.now (search rules) (search rules) (sym c.in-Some.ensures.value)
    (first_text (open_of c.in-Some.element.now) c.bytes_of.result.now c.args.more.now (sym c.if-not-collects.ensures) c.bytes_of.ensures (eqb-true _ _ (sym c.if-not-is_empty.ensures)))
