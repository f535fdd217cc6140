use Rattle.state_sets.proofs.AfterLaws.{allows_after}
use Rattle.state_sets.proofs.set.allows.Goals as goal

pub returns-clause-after : goal.returns-clause-after
returns-clause-after c =
    allows_after c.args.mode c.args.lts.now c.args.set.now c.args.item _ c.states.ensures.system c.requires.item (rw c.states-2.ensures.value at c.allowed_by.ensures)
