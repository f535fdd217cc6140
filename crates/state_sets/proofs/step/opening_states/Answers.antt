use Rattle.lts_base.proofs.FindLaws.{IsSetAfter-from_reached}
use Rattle.state_sets.proofs.step.opening_states.Goals as goal

pub returns-clause-opening : goal.returns-clause-opening
returns-clause-opening c =
    let added = c.in_ok-add.ensures.added in
    IsSetAfter-from_reached _ _ _ _ (rw (c.clear.ensures.found, c.start-start.ensures.start) at added) c.in_ok-close.ensures.closure (record {
      rising = c.in_ok-states.ensures.rising;
      each = c.in_ok-states.ensures.each;
      all = c.in_ok-states.ensures.all;
    })
