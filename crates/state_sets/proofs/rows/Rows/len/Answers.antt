use Rattle.std.proofs.Common.{sym}
use Rattle.state_sets.proofs.RowLaws.{length_rows}
use Rattle.state_sets.proofs.rows.Rows.len.Goals as goal

pub returns : goal.returns
returns c = rw (← c.self.view_is) (sym (length_rows _ _ _))
