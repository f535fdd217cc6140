use Rattle.std.proofs.Common.{take, map}
use Rattle.std.specs.List.Sorted.{IsPermutation}
use Rattle.lts_base.specs.Numbered.{renumbered}
use Rattle.lts_base.proofs.sorting.moves_over.Given as goal

abbrev pub invariant-places : goal.invariant-places
invariant-places l = IsPermutation (map (renumbered l.numbers) (take l.place l.raw)) l.moves
