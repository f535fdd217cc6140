use Rattle.std.proofs.Common.{◌≡◌, length, sym, subst}
use Rattle.std.proofs.Math.Numerals.{add-one}
use Rattle.state_sets.specs.Rows.{Table}
use Rattle.state_sets.proofs.RowLaws.{rows_push}
use Rattle.state_sets.proofs.rows.Rows.push.Goals as goal

pub returns-clause-rows : goal.returns-clause-rows
returns-clause-rows c =
    let same : length c.args.row.now ≡ c.self.inside.width = subst (λ (t : Table). length c.args.row.now ≡ t.width) (sym c.self.view_is) c.requires in
    rw (c.in_ok-extend_from_slice.ensures.items, add-one, ← c.self.view_is) (rows_push _ _ _ _ c.self.invariant.long same)
