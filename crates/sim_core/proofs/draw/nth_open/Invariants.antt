use Rattle.std.proofs.Common.{◌≡◌, ◌+◌, length, take}
use Rattle.sim_core.specs.Drawn.{open_of}
use Rattle.sim_core.proofs.draw.nth_open.Given as goal

abbrev pub invariant-loop-m : goal.invariant-loop-m
invariant-loop-m l = length (open_of l.among (take l.m-index l.moves)) + l.left ≡ l.k
