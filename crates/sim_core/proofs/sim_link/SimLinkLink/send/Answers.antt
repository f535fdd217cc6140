use Rattle.std.proofs.Common.{ap, ◌∙◌}
use Rattle.sim_core.proofs.LinkLaws.{sent_gives, sent_on}
use Rattle.sim_core.proofs.sim_link.SimLinkLink.send.Goals as goal

pub invariant_of-self-2 : goal.invariant_of-self-2
invariant_of-self-2 g c = record {
  simulating = sent_on g.R.NextWord.step c.self.inside.lts.now c.self.inside.labels.now.texts _ _ c.in-Some.input c.args.text.now c.in-Some.ensures.some c.take_from-self-inside.ensures.taken c.self.invariant.simulating;
  alphabet = c.self.invariant.alphabet;
  over = c.self.invariant.over;
  saying = tt;
  room_is = c.take_from-self-inside.ensures.states ∙ c.self.invariant.room_is;
  none = c.take_from-self-inside.ensures.found;
}

pub returns-clause-gives : goal.returns-clause-gives
returns-clause-gives g c =
    sent_gives g.R.NextWord.step c.self.inside.lts.now c.self.inside.labels.now.texts _ _ c.in-Some.input c.args.text.now _ (ap (λ k. k.simulated) c.self.view_is) c.in-Some.ensures.some
    c.take_from-self-inside.ensures.taken
