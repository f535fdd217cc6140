use Rattle.conf_decide.proofs.WrongLaws.{agreed_none, agreed_rows}
use Rattle.conf_decide.proofs.search.next_label.Goals as goal

pub returns-in_default : goal.returns-in_default
returns-in_default g c = agreed_none c.args.setting (g.A.Walk.walked c.args.imp.now) (g.B.Walk.walked c.args.spec.now) c.args.left c.args.right c.args.number _ c.requires.setting c.label_from.ensures

pub returns-in_default-row : goal.returns-in_default-row
returns-in_default-row g c = agreed_none c.args.setting (g.A.Walk.walked c.args.imp.now) (g.B.Walk.walked c.args.spec.now) c.args.left c.args.right c.args.number _ c.requires.setting c.label_from-in_default-row.ensures

pub returns : goal.returns
returns g c =
    agreed_rows c.args.setting (g.A.Walk.walked c.args.imp.now) (g.B.Walk.walked c.args.spec.now) c.args.left c.args.right c.args.number _ _ _ c.requires.setting
    c.in-Some.ensures c.in-Some-row.ensures c.first_missing.ensures
