use Rattle.std.proofs.Common.{◌<◌, ◌≤◌, ◌≡◌, ◌+◌, ◌-◌, ◌*◌, length, arith, sym, rules}
use Rattle.state_sets.proofs.RowLaws.{length_rows, rows_at, rows_within}
use Rattle.state_sets.proofs.rows.Rows.row.Goals as goal

pub overflow_mul-from : goal.overflow_mul-from
overflow_mul-from c =
    let below : c.args.number < c.self.inside.count = rw (length_rows c.self.inside.width c.self.inside.count c.self.inside.words.items) at (rw (← c.self.view_is) at c.requires) in
    let inside : c.args.number * c.self.inside.width + c.self.inside.width ≤ length c.self.inside.words.items = rows_within _ _ _ _ below c.self.invariant in
    search rules

pub overflow_add-result : goal.overflow_add-result
overflow_add-result c =
    let below : c.args.number < c.self.inside.count = rw (length_rows c.self.inside.width c.self.inside.count c.self.inside.words.items) at (rw (← c.self.view_is) at c.requires) in
    let inside : c.args.number * c.self.inside.width + c.self.inside.width ≤ length c.self.inside.words.items = rows_within _ _ _ _ below c.self.invariant in
    search rules

pub offset_bounds-deref-from : goal.offset_bounds-deref-from
offset_bounds-deref-from c =
    let below : c.args.number < c.self.inside.count = rw (length_rows c.self.inside.width c.self.inside.count c.self.inside.words.items) at (rw (← c.self.view_is) at c.requires) in
    let inside : c.args.number * c.self.inside.width + c.self.inside.width ≤ length c.self.inside.words.items = rows_within _ _ _ _ below c.self.invariant in
    search rules

pub slice_bounds-result-end : goal.slice_bounds-result-end
slice_bounds-result-end c =
    let below : c.args.number < c.self.inside.count = rw (length_rows c.self.inside.width c.self.inside.count c.self.inside.words.items) at (rw (← c.self.view_is) at c.requires) in
    let inside : c.args.number * c.self.inside.width + c.self.inside.width ≤ length c.self.inside.words.items = rows_within _ _ _ _ below c.self.invariant in
    search rules

pub returns : goal.returns
returns c =
    let below : c.args.number < c.self.inside.count = rw (length_rows c.self.inside.width c.self.inside.count c.self.inside.words.items) at (rw (← c.self.view_is) at c.requires) in
    let size : c.args.number * c.self.inside.width + c.self.inside.width - c.args.number * c.self.inside.width ≡ c.self.inside.width = omega arith in
    rw (c.deref.ensures.value, size, ← c.self.view_is) (sym (rows_at _ _ _ _ below))
