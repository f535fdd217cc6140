use Rattle.std.proofs.Common.{inr, sym, ◌∙◌}
use Rattle.std.proofs.lemmas.Bool.{false≢true}
use Rattle.sim_core.proofs.HearLaws.{GoesOn-from_gone}
use Rattle.sim_core.proofs.hearing.hear_from.Goals as goal

pub returns-else-on_cycle-clause-heard : goal.returns-else-on_cycle-clause-heard
returns-else-on_cycle-clause-heard g c = inr (
  (λ on. false≢true (sym c.if-on_cycle.false ∙ c.on_cycle.ensures.1 on)),
  GoesOn-from_gone g.R.NextWord.step c.args.lts.now _ _ _ (rw c.inputs.ensures.inputs at c.go_on.ensures.gone),
)
