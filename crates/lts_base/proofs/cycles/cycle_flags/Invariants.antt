use Rattle.std.proofs.Common.{ℕ, ◌≡◌, ◌≢◌, ◌<◌, [], get_or, None}
use Rattle.lts_base.specs.Descent.{IsDescent, NoneOpen}
use Rattle.lts_base.proofs.cycles.cycle_flags.Given as goal

abbrev pub invariant-roots : goal.invariant-roots
invariant-roots l = record {
  blocks : l.descent.blocks.items ≡ [];
  seen : (p : ℕ) → p < l.root → get_or l.descent.places.items p None ≢ None;
  descent : IsDescent l.lts NoneOpen l.descent.places.items l.descent.path.items l.descent.blocks.items l.descent.pending.items l.descent.flags.items;
}
