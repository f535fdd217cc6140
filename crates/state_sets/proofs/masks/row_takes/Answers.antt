use Rattle.std.proofs.Common.{rules}
use Rattle.state_sets.proofs.masks.row_takes.Goals as goal

pub returns-then-not-row_has : goal.returns-then-not-row_has
returns-then-not-row_has c = let told = c.row_has.ensures c.args.set.now c.requires.row in search rules

pub returns-in-Ioco : goal.returns-in-Ioco
returns-in-Ioco c = let told = c.row_has.ensures c.args.set.now c.requires.row in search rules

pub returns-in-Uioco : goal.returns-in-Uioco
returns-in-Uioco c = let told = c.row_has.ensures c.args.set.now c.requires.row in search rules
