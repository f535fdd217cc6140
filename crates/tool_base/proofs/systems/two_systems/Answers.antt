use Rattle.std.proofs.Common.{◌∙◌, sym, refl}
use Rattle.tool_base.proofs.StoppedLaws.{two_over}
use Rattle.tool_base.proofs.systems.two_systems.Goals as goal

pub returns-clause-over : goal.returns-clause-over
returns-clause-over g c =
    two_over _ _ c.args.first.now c.args.second.now _ _ _ _ _ _ refl c.in_ok-labels.ensures.loaded c.in_ok-labels.ensures.sound
    (sym c.into_vec-systems.ensures ∙ c.in-Some-Some.ensures.items) c.in-Some-Some.ensures'.items
