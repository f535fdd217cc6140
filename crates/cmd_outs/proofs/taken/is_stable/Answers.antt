use Rattle.std.proofs.lemmas.Bool.{false≢true}
use Rattle.std.proofs.Common.{refl}
use Rattle.cmd_outs.proofs.TakenLaws.{stable_all, unstable}
use Rattle.cmd_outs.proofs.taken.is_stable.Goals as goal

pub returns-in-Tau : goal.returns-in-Tau
returns-in-Tau c = (λ t. absurd (false≢true t), λ stable. absurd (unstable c.args.lts.now c.args.state c.moves.m-index c.moves_of-moves.result.now _ c.moves_of-moves.ensures.these c.moves-test.true c.in-Tau.is stable))

pub returns : goal.returns
returns c = (λ t. stable_all c.args.lts.now c.args.state c.moves.m-index c.moves_of-moves.result.now c.moves_of-moves.ensures.these c.moves-test.false c.moves.invariant, λ stable. refl)
