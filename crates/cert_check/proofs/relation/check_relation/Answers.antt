use Rattle.cert_check.proofs.ValidLaws.{conforming_from_accepted}
use Rattle.cert_check.proofs.AnswerLaws.{one_for_relation}
use Rattle.cert_check.proofs.relation.check_relation.Goals as goal

pub test_relation-requires-clause-relation : goal.test_relation-requires-clause-relation
test_relation-requires-clause-relation c = rw (c.in_ok-imp_side.ensures.same, c.in_ok-spec_side.ensures.same) (record {
  inputs = c.requires.inputs;
  outputs = c.requires.outputs;
  pairs = c.requires.pairs;
  left = c.requires.left;
  right = c.requires.right;
})

pub returns-clause-checked : goal.returns-clause-checked
returns-clause-checked c = rw (c.in_ok-imp_side.ensures.same, c.in_ok-spec_side.ensures.same) at c.in_ok-checked.ensures

pub returns-clause-only : goal.returns-clause-only
returns-clause-only c = λ d is. one_for_relation c.args.mode c.args.imp.now c.args.spec.now c.args.relation.now _ d (returns-clause-checked c) is

pub returns-clause-conforms : goal.returns-clause-conforms
returns-clause-conforms c = conforming_from_accepted c.args.mode c.args.imp.now c.args.spec.now c.args.relation.now _ c.in_ok-imp_side.ensures.system c.in_ok-spec_side.ensures.system (returns-clause-checked c)
