use Rattle.std.proofs.Common.{◌≡◌, ◌+◌, length}
use Rattle.lts_base.specs.Descent.{IsDescent, NoneOpen}
use Rattle.lts_base.proofs.descent.next_new.Given as goal

abbrev pub invariant-looks : goal.invariant-looks
invariant-looks l = record {
  places : l.descent.places.items ≡ l.fn.descent.places.items;
  descent : IsDescent l.lts NoneOpen l.descent.places.items l.descent.path.items l.descent.blocks.items l.descent.pending.items l.descent.flags.items;
}

abbrev pub decreases-looks : goal.decreases-looks
decreases-looks l = length l.descent.pending.items + length l.descent.blocks.items
