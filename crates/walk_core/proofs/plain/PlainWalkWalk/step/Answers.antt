use Rattle.std.proofs.lemmas.Result.{IfOk-weaker}
use Rattle.walk_core.proofs.WalkLaws.{LeadsTo-from_step, Took-next}
use Rattle.walk_core.proofs.plain.PlainWalkWalk.step.Goals as goal

pub returns-clause-after : goal.returns-clause-after
returns-clause-after g c =
    rw (← c.self.view_is) (IfOk-weaker c.step.result _ _ (λ to step. LeadsTo-from_step c.self.inside.sets c.step.new.self c.args.node.0 c.args.item _ c.step.ensures.grows.system step) c.step.ensures.ok)

pub returns-clause-taken : goal.returns-clause-taken
returns-clause-taken g c = rw (← c.self.view_is) (Took-next c.self.inside.taken)
