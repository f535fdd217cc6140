use Rattle.std.proofs.Common.{◌≡◌, ◌++◌, take, map}
use Rattle.lts_base.specs.MoveNumber.{move_of}
use Rattle.lts_base.proofs.sorted_moves.put_all.Given as goal

abbrev pub invariant-keys : goal.invariant-keys
invariant-keys l = l.moves.items ≡ l.initial.moves.items ++ map move_of (take l.key-index l.keys)
