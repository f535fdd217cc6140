use Rattle.std.proofs.Common.{rules, subst}
use Rattle.cmd_check.specs.Asked.{check_from}
use Rattle.cmd_check.specs.Check.{IsAble}
use Rattle.cmd_check.specs.Printable.{IsFound}
use Rattle.cmd_check.proofs.PrintableLaws.{told_printable, told_due, tellable, whole_due}
use Rattle.cmd_check.proofs.command.report.Goals as goal

pub whole-requires : goal.whole-requires
whole-requires c =
    tellable (check_from c.args.asked.now) c.args.both.now _ c.requires.over c.requires.pairs
    (subst (IsFound (check_from c.args.asked.now) c.args.both.now.second c.args.both.now.first) c.in-Whole.is c.in_ok-answer.ensures)

pub usual-requires-clause-printable : goal.usual-requires-clause-printable
usual-requires-clause-printable c =
    told_printable (check_from c.args.asked.now) c.args.both.now _ c.requires.over
    (subst (IsFound (check_from c.args.asked.now) c.args.both.now.second c.args.both.now.first) c.in-Told.is c.in_ok-answer.ensures)

pub returns-in-Whole : goal.returns-in-Whole
returns-in-Whole c =
    let able : IsAble (check_from c.args.asked.now) c.args.both.now.second = search rules in
    whole_due (check_from c.args.asked.now) c.args.both.now c.in-Whole.answer _ able
    (subst (IsFound (check_from c.args.asked.now) c.args.both.now.second c.args.both.now.first) c.in-Whole.is c.in_ok-answer.ensures) c.whole.ensures

pub returns-in-Told : goal.returns-in-Told
returns-in-Told c =
    let able : IsAble (check_from c.args.asked.now) c.args.both.now.second = search rules in
    told_due (check_from c.args.asked.now) c.args.both.now c.in-Told.verdict _ able
    (subst (IsFound (check_from c.args.asked.now) c.args.both.now.second c.args.both.now.first) c.in-Told.is c.in_ok-answer.ensures) c.usual.ensures
