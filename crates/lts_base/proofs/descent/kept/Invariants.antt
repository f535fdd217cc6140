use Rattle.std.proofs.Common.{ℕ, ◌<◌, ◌≤◌, length, get_or}
use Rattle.lts_base.specs.declared.descent.Block.{Block}
use Rattle.lts_base.proofs.descent.kept.Given as goal

abbrev pub invariant-counted : goal.invariant-counted
invariant-counted l = record {
  within : l.count ≤ length l.blocks;
  above : (j : ℕ) (d : Block) → l.count ≤ j → j < length l.blocks → l.place < (get_or l.blocks j d).start;
}

abbrev pub decreases-counted : goal.decreases-counted
decreases-counted l = l.count
