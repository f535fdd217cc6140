use Rattle.std.proofs.Common.{arith}
use Rattle.lts_shape.proofs.CycleLaws.{zeros_next}
use Rattle.lts_shape.proofs.cycle.first_left.Goals as goal

pub states-preserved : goal.states-preserved
states-preserved c = zeros_next _ _ (omega (arith, c.requires, c.states-test.true)) (λ some. omega (arith, some, c.if-counts-state-gt0.false)) c.states.invariant
