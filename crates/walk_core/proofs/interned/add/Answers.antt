use Rattle.walk_core.proofs.WalkLaws.{stored_at}
use Rattle.walk_core.proofs.interned.add.Goals as goal

pub returns-clause-ok : goal.returns-clause-ok
returns-clause-ok c =
    let kept = c.in_ok-place.ensures.stored in
    (c.in_ok-place.ensures.keys, c.in_ok-place.ensures.within, stored_at c.insert_full.new.self.keys _ c.in_ok-place.place kept.0 kept.1 kept.2)
