use Rattle.cmd_outs.proofs.taken.has_to_take.Goals as goal

pub returns-in-Uioco : goal.returns-in-Uioco
returns-in-Uioco c = rw c.in-Uioco.is c.is_stable.ensures
