use Rattle.sim_core.specs.declared.among.Among.TheVariants.{Outputs}
use Rattle.sim_core.proofs.HearLaws.{leaves_on, choice_move}
use Rattle.sim_core.proofs.hearing.leave.Goals as goal

pub go_on-requires-clause-from : goal.go_on-requires-clause-from
go_on-requires-clause-from g c = (choice_move g.R.NextWord.step c.args.lts.now _ (Outputs c.inputs.result) _ _ _ _ c.moves_of.ensures.system c.moves_of.ensures.these c.in-Some.ensures).2

pub returns-in-Tau-clause-left : goal.returns-in-Tau-clause-left
returns-in-Tau-clause-left g c =
    leaves_on g.R.NextWord.step c.args.lts.now _ c.inputs.result c.moves_of.result.now c.in-Some.m c.draw_or_stay.new.rng _ _ c.inputs.ensures.inputs c.moves_of.ensures.value c.in-Some.ensures c.in-Tau.is
    c.go_on.ensures.gone

pub returns-in-Label-clause-inside : goal.returns-in-Label-clause-inside
returns-in-Label-clause-inside g c = (choice_move g.R.NextWord.step c.args.lts.now _ (Outputs c.inputs.result) _ _ _ _ c.moves_of.ensures.system c.moves_of.ensures.these c.in-Some.ensures).2
