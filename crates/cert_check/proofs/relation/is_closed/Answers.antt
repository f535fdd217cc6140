use Rattle.cert_check.proofs.RelationLaws.{closed_empty, tells_closed, empty_list, some_list}
use Rattle.cert_check.proofs.relation.is_closed.Goals as goal

pub returns-then-is_empty-clause-closed : goal.returns-then-is_empty-clause-closed
returns-then-is_empty-clause-closed c =
    closed_empty _ _ _ _ _ _ _ _ c.in_ok-next_left.ensures.next (empty_list _ _ _ c.is_empty.ensures c.if-is_empty.true c.as_slice.ensures.value)

pub returns-clause-closed : goal.returns-clause-closed
returns-clause-closed c =
    tells_closed _ _ _ _ _ _ _ _ _ _ c.requires.spec_item (c.allows.ensures.0 c.if-not-allows.false) c.in_ok-next_left.ensures.next c.in_ok-next_right.ensures.next
    (some_list _ _ _ c.is_empty.ensures c.if-is_empty.false c.as_slice.ensures.value) (rw (c.deref.ensures.value, c.deref-2.ensures.value) at c.has_pair.ensures)
