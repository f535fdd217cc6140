use Rattle.cert_check.proofs.RelationLaws.{IsFineBelow}
use Rattle.cert_check.proofs.relation.shows_more.Given as goal

abbrev pub invariant-items : goal.invariant-items
invariant-items l = IsFineBelow l.imp l.spec l.left l.right l.number
