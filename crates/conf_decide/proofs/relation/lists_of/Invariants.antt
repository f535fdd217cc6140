use Rattle.std.proofs.Common.{◌≡◌}
use Rattle.std.specs.Prelude.{take}
use Rattle.conf_decide.proofs.relation.lists_of.Given as goal

abbrev pub invariant-sets : goal.invariant-sets
invariant-sets g l = l.lists ≡ take l.number (g.W.Walk.walked l.walk).sets
