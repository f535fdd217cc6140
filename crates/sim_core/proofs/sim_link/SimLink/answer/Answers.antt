use Rattle.sim_core.proofs.LinkLaws.{label_line}
use Rattle.sim_core.proofs.sim_link.SimLink.answer.Goals as goal

pub returns-in-Some-clause-said : goal.returns-in-Some-clause-said
returns-in-Some-clause-said g c =
    rw c.in-Some.is (label_line c.self.inside.labels.now _ c.self.invariant.alphabet (rw c.in-Some.is at (rw (← c.self.view_is) at c.requires.saying)))
