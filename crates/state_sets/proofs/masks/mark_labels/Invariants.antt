use Rattle.std.proofs.Common.{◌≡◌, length}
use Rattle.state_sets.proofs.MaskLaws.{AreMarked}
use Rattle.state_sets.proofs.masks.mark_labels.Given as goal

abbrev pub invariant-moves : goal.invariant-moves
invariant-moves l = record { long : length l.row ≡ length l.fn.row; marked : AreMarked l.moves l.row l.place }
