use Rattle.lts_shape.proofs.CycleLaws.{IsTauCycle-diverges}
use Rattle.lts_shape.proofs.cycle.tau_cycle.Goals as goal

pub returns : goal.returns
returns c = record {
  found = c.in_ok-cycle.ensures;
  exact = (λ none. absurd (cc none), λ convergent. absurd (IsTauCycle-diverges _ _ c.in_ok-cycle.ensures convergent));
}
