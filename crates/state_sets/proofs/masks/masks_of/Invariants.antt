use Rattle.std.proofs.Common.{◌≡◌, length}
use Rattle.state_sets.specs.Rows.{width_of}
use Rattle.state_sets.proofs.MaskLaws.{AreMasksTo}
use Rattle.state_sets.proofs.masks.masks_of.Given as goal

abbrev pub invariant-states : goal.invariant-states
invariant-states l = record { long : length l.row.items ≡ width_of l.lts; masks : AreMasksTo l.lts l.rows l.state }
