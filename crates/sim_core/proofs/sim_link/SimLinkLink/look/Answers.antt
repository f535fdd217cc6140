use Rattle.std.proofs.Common.{ap}
use Rattle.sim_core.proofs.LeadLaws.{Looks-looked, looked_on}
use Rattle.sim_core.proofs.LinkLaws.{saying_looked, looked_gives}
use Rattle.sim_core.proofs.sim_link.SimLinkLink.look.Goals as goal

pub answer-requires-clause-simulating : goal.answer-requires-clause-simulating
answer-requires-clause-simulating g c =
    looked_on c.self.inside.lts.now c.self.inside.state _ c.look_from-gone.result.state c.self.invariant.simulating (Looks-looked g.R.NextWord.step c.self.inside.lts.now _ _ _ c.look_from-gone.ensures.looked)

pub answer-requires-clause-saying : goal.answer-requires-clause-saying
answer-requires-clause-saying g c =
    saying_looked c.self.inside.labels.now c.self.inside.lts.now c.self.inside.state _ c.look_from-gone.result.state c.self.invariant.alphabet c.self.invariant.over c.self.invariant.simulating
    (Looks-looked g.R.NextWord.step c.self.inside.lts.now _ _ _ c.look_from-gone.ensures.looked)

pub returns-clause-gives : goal.returns-clause-gives
returns-clause-gives g c =
    looked_gives g.R.NextWord.step c.self.inside.lts.now c.self.inside.labels.now.texts _ _ c.look_from-gone.result.label c.answer.new.self.said c.answer.result _ c.answer.new.self.simulated
    (ap (λ k. k.simulated) c.self.view_is) c.answer.ensures.simulated c.look_from-gone.ensures.looked c.answer.ensures.answer
