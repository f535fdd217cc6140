use Rattle.state_sets.proofs.masks.row_allows.Goals as goal

pub returns-in-Output : goal.returns-in-Output
returns-in-Output c = rw c.in-Output.is (rw c.in-Output.is at (c.row_shows.ensures c.args.set.now c.requires.row))

pub returns-in-Delta : goal.returns-in-Delta
returns-in-Delta c = rw c.in-Delta.is (rw c.in-Delta.is at (c.row_shows-in-Delta.ensures c.args.set.now c.requires.row))
