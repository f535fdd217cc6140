use Rattle.std.proofs.Common.{◌≡◌}
use Rattle.lts_base.specs.Related.{rows_of}
use Rattle.cert_check.proofs.RelationLaws.{IsClosedBelow}
use Rattle.cert_check.proofs.relation.first_open.Given as goal

abbrev pub invariant-items : goal.invariant-items
invariant-items l = record {
  imp_marks : l.imp_marks.states ≡ l.fn.imp_marks.states;
  spec_marks : l.spec_marks.states ≡ l.fn.spec_marks.states;
  closed : IsClosedBelow l.mode l.imp l.spec (rows_of l.relation) l.left l.right l.number;
}
