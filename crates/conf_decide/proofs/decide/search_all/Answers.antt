use Rattle.std.proofs.Common.{refl}
use Rattle.conf_decide.proofs.EndLaws.{paid_none, few_none, opening_newest, opening_tested}
use Rattle.conf_decide.proofs.GrowLaws.{Grows-same}
use Rattle.conf_decide.proofs.decide.search_all.Goals as goal

pub add-requires-clause-newest : goal.add-requires-clause-newest
add-requires-clause-newest g c =
    opening_newest c.args.setting _ _ _ _
    c.requires.imp_fresh c.requires.spec_fresh c.begin.ensures.node c.begin-2.ensures.node refl refl c.requires.some c.requires.empty

pub returns-in_err-answer-clause-steps : goal.returns-in_err-answer-clause-steps
returns-in_err-answer-clause-steps g c = paid_none _ _ (g.A.Walk.walked c.args.imp.now) (g.B.Walk.walked c.args.spec.now) _

pub returns-in-Some-clause-steps : goal.returns-in-Some-clause-steps
returns-in-Some-clause-steps g c = paid_none _ _ (g.A.Walk.walked c.args.imp.now) (g.B.Walk.walked c.args.spec.now) _

pub look_on-requires-clause-run : goal.look_on-requires-clause-run
look_on-requires-clause-run g c =
    opening_tested c.args.setting _ _ _ _ _ _
    c.requires.imp_fresh c.requires.spec_fresh c.begin.ensures.node c.begin-2.ensures.node refl refl c.requires.some c.requires.empty c.in_default.is c.in_ok-answer.ensures.tested

pub returns-in_err-answer-clause-imp : goal.returns-in_err-answer-clause-imp
returns-in_err-answer-clause-imp g c = Grows-same _

pub returns-in_err-answer-clause-spec : goal.returns-in_err-answer-clause-spec
returns-in_err-answer-clause-spec g c = Grows-same _

pub returns-in_err-answer-clause-taken : goal.returns-in_err-answer-clause-taken
returns-in_err-answer-clause-taken g c = few_none _ _ (g.A.Walk.walked c.args.imp.now) (g.B.Walk.walked c.args.spec.now) _ _

pub returns-in-Some-clause-imp : goal.returns-in-Some-clause-imp
returns-in-Some-clause-imp g c = Grows-same _

pub returns-in-Some-clause-spec : goal.returns-in-Some-clause-spec
returns-in-Some-clause-spec g c = Grows-same _

pub returns-in-Some-clause-taken : goal.returns-in-Some-clause-taken
returns-in-Some-clause-taken g c = few_none _ _ (g.A.Walk.walked c.args.imp.now) (g.B.Walk.walked c.args.spec.now) _ _
