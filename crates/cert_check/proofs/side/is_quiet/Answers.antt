use Rattle.std.proofs.Common.{◌∙◌, sym}
use Rattle.std.proofs.lemmas.Bool.{false≢true, iff_false}
use Rattle.cert_check.proofs.QuietLaws.{stable_quiet, moving_refused, moving_quiet}
use Rattle.cert_check.proofs.side.is_quiet.Goals as goal

pub returns-then-not-has_move-clause-quiet : goal.returns-then-not-has_move-clause-quiet
returns-then-not-has_move-clause-quiet c = stable_quiet c.args.lts.now c.args.state _ (iff_false c.has_move.ensures c.if-not-has_move.true) c.gives_output.ensures

pub returns-in-Refuse-clause-quiet : goal.returns-in-Refuse-clause-quiet
returns-in-Refuse-clause-quiet c = (
  λ t. absurd (false≢true t),
  λ quiet. absurd (moving_refused c.args.lts.now c.args.state (sym c.divergence.ensures.divergence ∙ c.in-Refuse.is) (c.has_move.ensures.0 c.if-not-has_move.false) quiet),
)

pub returns-in_ok-returns-in-Quiet-clause-quiet : goal.returns-in_ok-returns-in-Quiet-clause-quiet
returns-in_ok-returns-in-Quiet-clause-quiet c =
    moving_quiet c.args.lts.now c.args.state _ (sym c.divergence.ensures.divergence ∙ c.in-Quiet.is) (c.has_move.ensures.0 c.if-not-has_move.false) c.in_ok-returns-in-Quiet.ensures.back
