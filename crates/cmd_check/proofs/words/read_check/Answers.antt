use Rattle.torx_words.proofs.AskedLaws.{asked_err, asked_ok}
use Rattle.cmd_check.specs.Asked.{check_of, check_shape}
use Rattle.cmd_check.proofs.words.read_check.Goals as goal

pub returns-in_err-given-clause-asked : goal.returns-in_err-given-clause-asked
returns-in_err-given-clause-asked c = asked_err check_shape _ check_of _ _ _ _ c.plain.ensures c.from_residual.ensures.1 c.in_err-given.ensures.given

pub returns-clause-asked : goal.returns-clause-asked
returns-clause-asked c = asked_ok check_shape _ check_of _ _ _ c.plain.ensures c.in_ok-given.ensures.given c.check_given.ensures.asked
