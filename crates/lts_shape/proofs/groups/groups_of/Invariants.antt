use Rattle.lts_shape.specs.Groups.{AreGroups}
use Rattle.lts_shape.proofs.groups.groups_of.Given as goal

abbrev pub invariant-moves : goal.invariant-moves
invariant-moves l = AreGroups l.lts l.index l.last.items l.before.items
