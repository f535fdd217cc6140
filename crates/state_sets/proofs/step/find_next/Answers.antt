use Rattle.lts_base.proofs.FindLaws.{AreNext-from_reached}
use Rattle.state_sets.proofs.step.find_next.Goals as goal

pub returns-clause-found : goal.returns-clause-found
returns-clause-found c = AreNext-from_reached _ _ _ _ _ c.in_ok-see.ensures.seen c.in_ok-close.ensures.closure
