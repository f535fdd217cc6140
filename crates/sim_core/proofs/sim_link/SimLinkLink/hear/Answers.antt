use Rattle.std.proofs.Common.{ap}
use Rattle.sim_core.proofs.LeadLaws.{Hears-heard, heard_on}
use Rattle.sim_core.proofs.LinkLaws.{saying_heard, heard_gives}
use Rattle.sim_core.proofs.sim_link.SimLinkLink.hear.Goals as goal

pub answer-requires-clause-simulating : goal.answer-requires-clause-simulating
answer-requires-clause-simulating g c =
    heard_on c.self.inside.lts.now c.self.inside.state _ c.hear_from-gone.result.state c.self.invariant.simulating (Hears-heard g.R.NextWord.step c.self.inside.lts.now _ _ _ c.hear_from-gone.ensures.heard)

pub answer-requires-clause-saying : goal.answer-requires-clause-saying
answer-requires-clause-saying g c =
    saying_heard c.self.inside.labels.now c.self.inside.lts.now c.self.inside.state _ c.hear_from-gone.result.state c.self.invariant.alphabet c.self.invariant.over c.self.invariant.simulating
    (Hears-heard g.R.NextWord.step c.self.inside.lts.now _ _ _ c.hear_from-gone.ensures.heard)

pub returns-clause-gives : goal.returns-clause-gives
returns-clause-gives g c =
    heard_gives g.R.NextWord.step c.self.inside.lts.now c.self.inside.labels.now.texts _ _ c.hear_from-gone.result.label c.answer.new.self.said c.answer.result _ c.answer.new.self.simulated
    (ap (λ k. k.simulated) c.self.view_is) c.answer.ensures.simulated c.hear_from-gone.ensures.heard c.answer.ensures.answer
