use Rattle.lts_base.proofs.FindLaws.{IsNext-from_found}
use Rattle.state_sets.proofs.step.next_states.Goals as goal

pub returns-clause-next : goal.returns-clause-next
returns-clause-next c = IsNext-from_found c.args.lts.now _ _ _ _ c.in_ok-find_next.ensures.found (record {
  rising = c.in_ok-states.ensures.rising;
  each = c.in_ok-states.ensures.each;
  all = c.in_ok-states.ensures.all;
})
