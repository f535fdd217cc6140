use Rattle.std.proofs.lemmas.Bool.{iff_false}
use Rattle.cert_check.proofs.RelationLaws.{opening_there, opening_lacks}
use Rattle.cert_check.proofs.relation.test_relation.Goals as goal

pub returns-then-not-has_pair : goal.returns-then-not-has_pair
returns-then-not-has_pair c =
    opening_lacks c.args.imp.now c.args.spec.now _ _ _ (rw c.lts.ensures at c.in_ok-left.ensures.opening) (rw c.lts-2.ensures at c.in_ok-right.ensures.opening)
    (rw (c.deref.ensures.value, c.deref-2.ensures.value) at (iff_false c.has_pair.ensures c.if-not-has_pair.true))

pub check_pairs-requires-clause-opening : goal.check_pairs-requires-clause-opening
check_pairs-requires-clause-opening c =
    opening_there c.args.imp.now c.args.spec.now _ _ _ (rw c.lts.ensures at c.in_ok-left.ensures.opening) (rw c.lts-2.ensures at c.in_ok-right.ensures.opening)
    (rw (c.deref.ensures.value, c.deref-2.ensures.value) at (c.has_pair.ensures.0 c.if-not-has_pair.false))
