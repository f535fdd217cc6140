use Rattle.conf_decide.proofs.EndLaws.{counted, paid_before, few_before}
use Rattle.conf_decide.proofs.decide.settle.Goals as goal

pub returns-in_err-answer-clause-steps : goal.returns-in_err-answer-clause-steps
returns-in_err-answer-clause-steps g c = paid_before _ _ _ _ _ _ _ _ c.search_all.ensures.imp c.search_all.ensures.spec c.search_all.ensures.steps

pub returns-in_err-answer-clause-taken : goal.returns-in_err-answer-clause-taken
returns-in_err-answer-clause-taken g c = few_before _ _ _ _ _ _ _ _ _ _ c.search_all.ensures.imp c.search_all.ensures.spec c.search_all.ensures.taken

pub returns-in-Some-clause-steps : goal.returns-in-Some-clause-steps
returns-in-Some-clause-steps g c = paid_before _ _ _ _ _ _ _ _ c.search_all.ensures.imp c.search_all.ensures.spec c.search_all.ensures.steps

pub returns-in-Some-clause-taken : goal.returns-in-Some-clause-taken
returns-in-Some-clause-taken g c = few_before _ _ _ _ _ _ _ _ _ _ c.search_all.ensures.imp c.search_all.ensures.spec c.search_all.ensures.taken

pub returns-clause-steps : goal.returns-clause-steps
returns-clause-steps g c = paid_before _ _ _ _ _ _ _ _ c.search_all.ensures.imp c.search_all.ensures.spec c.search_all.ensures.steps

pub returns-clause-taken : goal.returns-clause-taken
returns-clause-taken g c = few_before _ _ _ _ _ _ _ _ _ _ c.search_all.ensures.imp c.search_all.ensures.spec c.search_all.ensures.taken

pub returns-clause-answer : goal.returns-clause-answer
returns-clause-answer g c =
    rw c.len.ensures (counted (record { mode = c.args.mode; inputs = c.args.inputs; outputs = c.args.outputs; most_pairs = c.args.most_pairs }) (g.A.Walk.walked c.args.imp.now) (g.A.Walk.walked c.search_all.new.imp) (g.B.Walk.walked c.args.spec.now)
    (g.B.Walk.walked c.search_all.new.spec) c.search_all.new.table c.search_all.ensures.setting (rw c.in_default.is at c.in_ok-answer.ensures.outcome) c.search_all.ensures.imp c.search_all.ensures.spec)
