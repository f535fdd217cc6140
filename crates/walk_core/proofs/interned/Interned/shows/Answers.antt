use Rattle.walk_core.specs.Walked.{set_at}
use Rattle.walk_core.proofs.interned.Interned.shows.Goals as goal

pub returns-in-Some : goal.returns-in-Some
returns-in-Some c =
    rw (← c.self.view_is)
    (c.row_shows.ensures (set_at c.self.inside.sets.keys c.args.node.0) (c.in-Some.ensures c.self.inside.lts.now c.self.inside.sets.keys c.self.invariant.1))
