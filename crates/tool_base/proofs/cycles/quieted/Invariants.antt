use Rattle.std.proofs.Common.{◌≡◌, All, take, map}
use Rattle.lts_base.specs.declared.divergence.Divergence.TheVariants.{Quiet}
use Rattle.lts_base.specs.System.{IsSystem}
use Rattle.tool_base.specs.Sources.{read_as}
use Rattle.tool_base.proofs.cycles.quieted.Given as goal

abbrev pub invariant-systems : goal.invariant-systems
invariant-systems l = record {
  read : l.read ≡ map (read_as Quiet) (take l.system-index l.systems);
  sound : All IsSystem l.read;
}
