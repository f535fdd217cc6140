use Rattle.std.proofs.Common.{take}
use Rattle.edge_io.specs.Outside.{KeepsFiles}
use Rattle.tool_base.specs.Sources.{AreRead}
use Rattle.tool_base.specs.Given.{names_of}
use Rattle.tool_base.proofs.raw.raw_systems.Given as goal

abbrev pub invariant-names : goal.invariant-names
invariant-names g l = record {
  read : AreRead (g.F.Files.told l.fn.files).content (take l.name-index (names_of l.names)) l.raws;
  keeps : KeepsFiles (g.F.Files.told l.fn.files) (g.F.Files.told l.files);
}
