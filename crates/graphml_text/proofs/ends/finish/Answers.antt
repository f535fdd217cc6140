use Rattle.graphml_text.specs.MachineValues.{reading_of}
use Rattle.graphml_text.proofs.EndsLaws.{complete_is, finish_says}
use Rattle.graphml_text.proofs.ends.finish.Goals as goal

pub returns-clause-read : goal.returns-clause-read
returns-clause-read c =
    let complete = complete_is c.args.machine (rw c.as_slice.ensures.value at c.if-not-is_empty.ensures) c.if-not-machine.false in
    finish_says _ _ _ (reading_of c.args.machine) c.in-Ok.parts _ complete c.in-Ok.ensures c.node_count-states.ensures c.if-states-eq0.false c.start_of.ensures c.built.ensures.built
