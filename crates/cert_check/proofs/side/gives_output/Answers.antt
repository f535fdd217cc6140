use Rattle.std.proofs.lemmas.Bool.{false≢true}
use Rattle.cert_check.proofs.QuietLaws.{none_given, none_next_tau, none_next_input}
use Rattle.cert_check.proofs.side.gives_output.Goals.{in-Tau, in-Label+else-label-inputs}
use Rattle.cert_check.proofs.side.gives_output.Goals as goal

pub moves-preserved : goal.moves-preserved
moves-preserved c =
    elim c.match-m.branch [
      | in-Tau w ↦ none_next_tau c.args.lts.now _ _ c.inputs-inputs.result _ w.in-Tau.is c.moves-test.true c.moves.invariant
      | in-Label+else-label-inputs w ↦ none_next_input c.args.lts.now _ _ c.inputs-inputs.result _ _ w.in-Label.is w.if-label-inputs.false c.moves-test.true c.moves.invariant
    ]

pub returns : goal.returns
returns c = (
  λ t. absurd (false≢true t),
  λ some. absurd (none_given c.args.lts.now _ _ _ c.moves_of-moves.ensures.these c.moves-test.false (rw c.inputs-inputs.ensures.inputs at c.moves.invariant) some),
)
