use Rattle.std.proofs.Common.{All, take}
use Rattle.lts_base.specs.Shape.{IsConvergent}
use Rattle.tool_base.proofs.cycles.first_cycle.Given as goal

abbrev pub invariant-systems : goal.invariant-systems
invariant-systems l = All IsConvergent (take l.index l.systems)
