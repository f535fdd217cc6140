use Rattle.lts_shape.proofs.CycleLaws.{IsTauCycle-from_trail}
use Rattle.lts_shape.proofs.cycle.cycle_from.Goals as goal

pub returns : goal.returns
returns c = IsTauCycle-from_trail _ _ _ _ c.in_ok-again.ensures.trail c.in_ok-cycle.ensures
