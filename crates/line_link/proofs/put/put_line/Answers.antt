use Rattle.std.proofs.Common.{[], ◌∷◌}
use Rattle.line_link.proofs.GainLaws.{front_of_first, front_of_second, on_error, on_error-then}
use Rattle.line_link.proofs.put.put_line.Goals as goal

pub returns-in_err-put_bytes-clause-front : goal.returns-in_err-put_bytes-clause-front
returns-in_err-put_bytes-clause-front g c =
    let front = c.in_err-put_bytes.ensures.front in
    on_error c.from_residual.result _ (front_of_first _ _ c.args.text.now (10 ∷ []) front.0 front.1)

pub returns-clause-front : goal.returns-clause-front
returns-clause-front g c =
    on_error-then c.put_bytes-2.result _ _ (λ front. front_of_second _ _ _ c.args.text.now (10 ∷ []) front.0 c.in_ok-put_bytes.ensures.ok front.1) c.put_bytes-2.ensures.front
