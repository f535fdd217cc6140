use Rattle.std.proofs.lemmas.Result.{err_from_is_err_and}
use Rattle.lts_base.proofs.raw.RawLts.build.Goals as goal

pub returns-in_err-test_start-clause-err : goal.returns-in_err-test_start-clause-err
returns-in_err-test_start-clause-err c =
    let p = err_from_is_err_and c.from_residual.result c.from_residual.ensures.1 in
    rw (p.1, p.2) (c.in_err-test_start.ensures _ _)
