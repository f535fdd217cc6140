use Rattle.std.proofs.Common.{◌≡◌, take}
use Rattle.lts_shape.proofs.completion.copied.Given as goal

abbrev pub invariant-moves : goal.invariant-moves
invariant-moves l = l.copy ≡ take l.m-index l.moves
