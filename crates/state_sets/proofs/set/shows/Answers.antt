use Rattle.state_sets.proofs.AfterLaws.{shows_after}
use Rattle.state_sets.proofs.set.shows.Goals as goal

pub returns-clause-after : goal.returns-clause-after
returns-clause-after c = shows_after c.args.lts.now c.args.set.now c.args.item _ (rw c.states.ensures.value at c.shown_by.ensures)
