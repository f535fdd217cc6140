use Rattle.std.proofs.Common.{take}
use Rattle.lts_shape.specs.Peel.{AreCounts}
use Rattle.lts_shape.proofs.peel.counts_of.Given as goal

abbrev pub invariant-moves : goal.invariant-moves
invariant-moves l = AreCounts l.lts.states (take l.m-index l.moves) l.counts.items
