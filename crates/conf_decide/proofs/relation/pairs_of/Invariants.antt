use Rattle.std.proofs.Common.{◌≡◌, map}
use Rattle.std.specs.Prelude.{take}
use Rattle.conf_decide.specs.Table.{nodes_of}
use Rattle.conf_decide.proofs.relation.pairs_of.Given as goal

abbrev pub invariant-pairs : goal.invariant-pairs
invariant-pairs l = l.pairs ≡ map nodes_of (take l.number l.table)
