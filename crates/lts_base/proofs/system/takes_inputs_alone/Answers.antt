use Rattle.std.proofs.Common.{◌≤◌, ℕ, subst, arith, refl}
use Rattle.lts_base.proofs.MoveLaws.{loud_from_tau, loud_from_output, quiet_from_moves}
use Rattle.lts_base.proofs.system.takes_inputs_alone.Goals as goal

pub returns-in-Tau : goal.returns-in-Tau
returns-in-Tau c =
    (λ t. absurd (cc t), λ quiet. absurd (loud_from_tau _ _ _ c.moves.m-index _ c.moves_of-moves.ensures.these c.moves-test.true c.in-Tau.is quiet))

pub returns-then-label-inputs : goal.returns-then-label-inputs
returns-then-label-inputs c = (
  λ t. absurd (cc t),
  λ quiet.
      let high : c.args.lts.now.inputs ≤ c.in-Label.label = subst (λ (n : ℕ). n ≤ c.in-Label.label) c.inputs-inputs.ensures.inputs c.if-label-inputs.true in
      absurd (loud_from_output _ _ _ c.moves.m-index _ c.in-Label.label c.moves_of-moves.ensures.these c.moves-test.true c.in-Label.is high quiet),
)

pub returns : goal.returns
returns c = (
  λ _. quiet_from_moves c.args.lts.now c.args.state c.moves_of-moves.result.now c.moves_of-moves.ensures.these (λ k d below. c.moves.invariant k d (omega arith)),
  λ _. refl,
)
