use Rattle.std.proofs.Common.{◌≡◌, ◌++◌, length, take, drop, arith, refl, sym, ◌∙◌, inl, inr, rules}
use Rattle.state_sets.proofs.RowLaws.{whole_row}
use Rattle.walk_core.specs.Marked.{Marked}
use Rattle.walk_core.proofs.MarkLaws.{either, marks_kept}
use Rattle.walk_core.proofs.marks.Marks.keep.Goals as goal

pub returns-clause-rows : goal.returns-clause-rows
returns-clause-rows c =
    let full : c.self.inside.row.len ≡ length c.self.inside.row.items = search rules in
    let width = rw (← c.self.view_is) at c.requires.made.row in
    let same : length c.mark_set.new.row ≡ length c.self.inside.row.items = c.mark_set.ensures.long ∙ sym width in
    let whole : take c.self.inside.row.len (c.mark_set.new.row ++ drop (length c.mark_set.new.row) c.self.inside.row.items) ≡ c.mark_set.new.row = whole_row c.self.inside.row.items c.mark_set.new.row c.self.inside.row.len full same in
    let old : Marked = record { masks = c.self.inside.masks; rows = c.self.inside.rows; row = c.self.inside.row.items } in
    let new : Marked = record { masks = c.self.inside.masks; rows = c.push.new.self; row = c.mark_set.new.row } in
    rw (whole, ← c.self.view_is)
    (marks_kept c.args.lts.now old new c.args.set.now c.args.place (c.if-place-len.false ∙ c.len.ensures) refl c.mark_set.ensures
    (elim (either c.push.result c.push.ensures.rows c.push.ensures.same) [
      | inl more ↦ inl (c.push.ensures.width, rw (c.deref.ensures.value, whole) at more)
      | inr kept ↦ inr kept
    ]))
