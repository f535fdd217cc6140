use Rattle.std.proofs.Common.{◌≢◌, get_or, None}
use Rattle.std.specs.List.{sum_by}
use Rattle.lts_base.specs.Descent.{IsDescent, NoneOpen, IsKept}
use Rattle.lts_base.proofs.DescentEnds.{is_new}
use Rattle.lts_base.proofs.descent.search_from.Given as goal

abbrev pub invariant-steps : goal.invariant-steps
invariant-steps l = record {
  kept : IsKept l.fn.descent.places.items l.descent.places.items;
  seen : get_or l.descent.places.items l.root None ≢ None;
  descent : IsDescent l.lts NoneOpen l.descent.places.items l.descent.path.items l.descent.blocks.items l.descent.pending.items l.descent.flags.items;
}

abbrev pub decreases-steps : goal.decreases-steps
decreases-steps l = sum_by is_new l.descent.places.items
