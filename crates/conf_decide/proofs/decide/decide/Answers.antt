use Rattle.std.proofs.Common.{◌≤◌, length, arith}
use Rattle.conf_decide.specs.declared.answer.Answer.TheVariants.{Conforms}
use Rattle.conf_decide.proofs.EndLaws.{count_left, count_right, conformance, answer_before, paid_before, few_before}
use Rattle.conf_decide.proofs.decide.decide.Goals as goal

pub returns-in_err-answer-clause-steps : goal.returns-in_err-answer-clause-steps
returns-in_err-answer-clause-steps g c = paid_before _ _ _ _ _ _ _ _ c.search_all.ensures.imp c.search_all.ensures.spec c.search_all.ensures.steps

pub returns-in_err-answer-clause-taken : goal.returns-in_err-answer-clause-taken
returns-in_err-answer-clause-taken g c = few_before _ _ _ _ _ _ _ _ _ _ c.search_all.ensures.imp c.search_all.ensures.spec c.search_all.ensures.taken

pub returns-in-Some-clause-steps : goal.returns-in-Some-clause-steps
returns-in-Some-clause-steps g c = paid_before _ _ _ _ _ _ _ _ c.search_all.ensures.imp c.search_all.ensures.spec c.search_all.ensures.steps

pub returns-in-Some-clause-taken : goal.returns-in-Some-clause-taken
returns-in-Some-clause-taken g c = few_before _ _ _ _ _ _ _ _ _ _ c.search_all.ensures.imp c.search_all.ensures.spec c.search_all.ensures.taken

pub returns-in_err-relation-clause-steps : goal.returns-in_err-relation-clause-steps
returns-in_err-relation-clause-steps g c = paid_before _ _ _ _ _ _ _ _ c.search_all.ensures.imp c.search_all.ensures.spec c.search_all.ensures.steps

pub returns-in_err-relation-clause-taken : goal.returns-in_err-relation-clause-taken
returns-in_err-relation-clause-taken g c = few_before _ _ _ _ _ _ _ _ _ _ c.search_all.ensures.imp c.search_all.ensures.spec c.search_all.ensures.taken

pub returns-clause-steps : goal.returns-clause-steps
returns-clause-steps g c = paid_before _ _ _ _ _ _ _ _ c.search_all.ensures.imp c.search_all.ensures.spec c.search_all.ensures.steps

pub returns-clause-taken : goal.returns-clause-taken
returns-clause-taken g c = few_before _ _ _ _ _ _ _ _ _ _ c.search_all.ensures.imp c.search_all.ensures.spec c.search_all.ensures.taken

pub relation_of-requires-clause-left : goal.relation_of-requires-clause-left
relation_of-requires-clause-left g c = λ n above. count_left _ _ _ _ _ _ n c.search_all.ensures.setting (rw c.in_default.is at c.in_ok-answer.ensures.outcome) above

pub relation_of-requires-clause-right : goal.relation_of-requires-clause-right
relation_of-requires-clause-right g c = λ n above. count_right _ _ _ _ _ _ n c.search_all.ensures.setting (rw c.in_default.is at c.in_ok-answer.ensures.outcome) above

pub returns-clause-answer : goal.returns-clause-answer
returns-clause-answer g c =
    let whole : length c.search_all.new.table ≤ length c.search_all.new.table = omega arith in
    answer_before (record { mode = c.args.mode; inputs = c.args.inputs; outputs = c.args.outputs; most_pairs = c.args.most_pairs }) (g.A.Walk.walked c.args.imp.now) (g.A.Walk.walked c.search_all.new.imp) (g.B.Walk.walked c.args.spec.now)
    (g.B.Walk.walked c.search_all.new.spec) (Conforms c.in_ok-relation.relation) c.search_all.ensures.imp c.search_all.ensures.spec
    (conformance _ _ _ c.search_all.new.table _ _ c.in_ok-relation.relation c.search_all.ensures.setting (rw c.in_default.is at c.in_ok-answer.ensures.outcome) whole c.in_ok-relation.ensures.left c.in_ok-relation.ensures.right c.in_ok-relation.ensures.pairs)
