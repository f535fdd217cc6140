use Rattle.std.proofs.Common.{◌∙◌, sym, refl}
use Rattle.tool_base.specs.Loaded.{one_source}
use Rattle.tool_base.proofs.StoppedLaws.{passed_on, one_over}
use Rattle.tool_base.proofs.ReadLaws.{stopped_before, digested_loads}
use Rattle.tool_base.proofs.systems.digested_system.Goals as goal

pub returns-in_err-labels-clause-loaded : goal.returns-in_err-labels-clause-loaded
returns-in_err-labels-clause-loaded g c =
    passed_on _ _ _ _ c.from_residual-in_err-labels.ensures.1
    (stopped_before (g.F.Files.told c.args.files.now) (g.F.Files.told c.load_digested.new.files) (g.F.Files.told c.over_files.new.files) (one_source c.args.name.now c.args.sorting c.args.divergence) _
    c.in_ok-raw.ensures.keeps c.in_err-labels.ensures.loaded)

pub returns-clause-loaded : goal.returns-clause-loaded
returns-clause-loaded g c =
    digested_loads _ _ _ c.args.name.now _ _ _ _ _ c.in_ok-raw.ensures.keeps refl c.in_ok-labels.ensures.loaded (sym c.into_vec-systems.ensures ∙ c.in-Some.ensures.items) c.in_ok-raw.ensures.loaded.1

pub returns-clause-over : goal.returns-clause-over
returns-clause-over g c = one_over _ _ c.args.name.now _ _ _ _ refl c.in_ok-labels.ensures.loaded c.in_ok-labels.ensures.sound (sym c.into_vec-systems.ensures ∙ c.in-Some.ensures.items)
