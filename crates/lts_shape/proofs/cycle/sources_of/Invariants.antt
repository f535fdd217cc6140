use Rattle.lts_shape.specs.Cycle.{AreSources}
use Rattle.lts_shape.proofs.cycle.sources_of.Given as goal

abbrev pub invariant-moves : goal.invariant-moves
invariant-moves l = AreSources l.lts l.counts l.m-index l.sources.items
