use Rattle.conf_decide.proofs.LookLaws.{look_jump}
use Rattle.conf_decide.proofs.look.next_item.Goals as goal

pub returns-clause-run : goal.returns-clause-run
returns-clause-run g c =
    look_jump c.args.setting _ _ _ _ c.at-from.result c.requires.setting c.requires.at c.at-from.ensures _ _ _ c.label_from-taken.ensures c.label_from.ensures c.requires.run
