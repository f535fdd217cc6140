use Rattle.std.proofs.Common.{◌≡◌, ◌≤◌, length, take}
use Rattle.sim_core.specs.Drawn.{open_of}
use Rattle.sim_core.proofs.draw.count_open.Given as goal

abbrev pub invariant-loop-m : goal.invariant-loop-m
invariant-loop-m l = record { count : l.count ≡ length (open_of l.among (take l.m-index l.moves)); few : l.count ≤ l.m-index }
