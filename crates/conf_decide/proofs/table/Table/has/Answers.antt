use Rattle.conf_decide.proofs.TableLaws.{has_iff}
use Rattle.conf_decide.proofs.table.Table.has.Goals as goal

pub returns : goal.returns
returns c = rw (← c.self.view_is) (has_iff _ c.self.inside.keys _ _ _ _ c.self.invariant c.ranges.right.fits c.key_of.ensures.key c.contains.ensures)
