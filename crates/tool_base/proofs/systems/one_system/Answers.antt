use Rattle.std.proofs.Common.{◌∙◌, sym, refl}
use Rattle.tool_base.proofs.StoppedLaws.{one_over}
use Rattle.tool_base.proofs.systems.one_system.Goals as goal

pub returns-clause-over : goal.returns-clause-over
returns-clause-over g c = one_over _ _ c.args.name.now _ _ _ _ refl c.in_ok-labels.ensures.loaded c.in_ok-labels.ensures.sound (sym c.into_vec-systems.ensures ∙ c.in-Some.ensures.items)
