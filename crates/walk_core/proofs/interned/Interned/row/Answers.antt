use Rattle.walk_core.proofs.interned.Interned.row.Goals as goal

pub returns : goal.returns
returns c = rw (← c.self.view_is) (c.in_ok-row.ensures c.self.inside.lts.now c.self.inside.sets.keys c.self.invariant.1)
