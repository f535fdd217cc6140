use Rattle.std.proofs.Common.{◌≡◌, ◌++◌, ◌∷◌, [], set, length, Some}
use Rattle.lts_base.specs.Descent.{IsDescent, IsOpenFrom}
use Rattle.lts_base.proofs.descent.enter.Given as goal

abbrev pub invariant-moves : goal.invariant-moves
invariant-moves l = record {
  places : l.descent.places.items ≡ set l.fn.descent.places.items l.state (Some (length l.fn.descent.path.items));
  path : l.descent.path.items ≡ l.fn.descent.path.items ++ l.state ∷ [];
  blocks : l.descent.blocks.items ≡ l.fn.descent.blocks.items ++ record { start = length l.fn.descent.path.items; base = length l.fn.descent.pending.items } ∷ [];
  descent : IsDescent l.lts (IsOpenFrom (length l.fn.descent.path.items) l.moves l.m-index) l.descent.places.items l.descent.path.items l.descent.blocks.items l.descent.pending.items l.descent.flags.items;
}
