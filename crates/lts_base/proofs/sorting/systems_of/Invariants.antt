use Rattle.std.proofs.Common.{take, All}
use Rattle.lts_base.specs.System.{IsSystem}
use Rattle.lts_base.specs.Sorting.{AreSystemsFor}
use Rattle.lts_base.proofs.sorting.systems_of.Given as goal

abbrev pub invariant-systems : goal.invariant-systems
invariant-systems l = record {
  over : AreSystemsFor l.labels (take l.system-index l.raw) l.systems;
  sound : All IsSystem l.systems;
}
