use Rattle.lts_base.proofs.FindLaws.{AreNext-from_reached, IsNext-from_found}
use Rattle.cert_check.proofs.sets.next_of.Goals as goal

pub returns-clause-next : goal.returns-clause-next
returns-clause-next c = IsNext-from_found c.args.side.now _ _ _ _
    (AreNext-from_reached c.args.side.now _ _ _ _ c.in_ok-see.ensures.seen (rw c.lts.ensures at c.in_ok-close.ensures.closure)) (record {
      rising = c.in_ok-states.ensures.rising;
      each = c.in_ok-states.ensures.each;
      all = c.in_ok-states.ensures.all;
    })
