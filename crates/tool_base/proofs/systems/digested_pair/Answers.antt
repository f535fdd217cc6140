use Rattle.std.proofs.Common.{◌∙◌, sym, refl}
use Rattle.tool_base.specs.Loaded.{two_sources}
use Rattle.tool_base.proofs.StoppedLaws.{passed_on, two_over}
use Rattle.tool_base.proofs.ReadLaws.{pair_loads, stopped_before}
use Rattle.tool_base.proofs.systems.digested_pair.Goals as goal

pub returns-in_err-labels-clause-loaded : goal.returns-in_err-labels-clause-loaded
returns-in_err-labels-clause-loaded g c =
    passed_on _ _ _ _ c.from_residual-in_err-labels.ensures.1
    (stopped_before (g.F.Files.told c.args.files.now) (g.F.Files.told c.raw_pair.new.files) (g.F.Files.told c.over_files.new.files) (two_sources c.args.first.now c.args.second.now c.args.sorting c.args.divergence) _
    c.in_ok-raws.ensures.keeps c.in_err-labels.ensures.loaded)

pub returns-clause-loaded : goal.returns-clause-loaded
returns-clause-loaded g c =
    pair_loads _ _ _ c.args.first.now c.args.second.now _ _ _ _ _ _ _ c.in_ok-raws.ensures.keeps refl c.in_ok-labels.ensures.loaded (sym c.into_vec-systems.ensures ∙ c.in-Some-Some.ensures.items)
    c.in-Some-Some.ensures'.items c.in_ok-raws.ensures.read.1

pub returns-clause-over : goal.returns-clause-over
returns-clause-over g c =
    two_over _ _ c.args.first.now c.args.second.now _ _ _ _ _ _ refl c.in_ok-labels.ensures.loaded c.in_ok-labels.ensures.sound
    (sym c.into_vec-systems.ensures ∙ c.in-Some-Some.ensures.items) c.in-Some-Some.ensures'.items
