use Rattle.std.proofs.Common.{◌∙◌, Bool, subst, sym}
use Rattle.tool_base.specs.Kinds.{kind_of}
use Rattle.tool_base.specs.Loads.{Loads}
use Rattle.tool_base.proofs.ReadLaws.{tapped_loads}
use Rattle.tool_base.proofs.load.load_system.Goals as goal

pub returns-clause-loaded : goal.returns-clause-loaded
returns-clause-loaded g c =
    subst (λ (b : Bool). Loads (kind_of b) (g.F.Files.told c.args.files.now) (g.F.Files.told c.load_written.new.files) c.args.name.now c.load_written.result) (sym c.if-is_graphml.false ∙ c.is_graphml.ensures)
    (tapped_loads _ _ _ _ _ _ c.load_written.ensures.loaded)
