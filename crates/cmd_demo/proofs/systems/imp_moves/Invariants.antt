use Rattle.std.proofs.Common.{◌≡◌}
use Rattle.cmd_demo.specs.Systems.{imp_moves_at, moves_below}
use Rattle.cmd_demo.proofs.systems.imp_moves.Given as goal

abbrev pub invariant-places : goal.invariant-places
invariant-places l = l.moves ≡ moves_below (imp_moves_at l.size.number) l.place
