use Rattle.lts_shape.proofs.CycleLaws.{IsTurning}
use Rattle.lts_shape.proofs.cycle.turned.Given as goal

abbrev pub invariant-finds : goal.invariant-finds
invariant-finds l = IsTurning l.search.found l.fn.state l.at l.cycle

abbrev pub decreases-finds : goal.decreases-finds
decreases-finds l = l.at
