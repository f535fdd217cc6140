use Rattle.torx_words.proofs.AskedLaws.{asked_err, asked_ok}
use Rattle.cmd_drive.specs.AskedRehearse.{rehearse_of, rehearse_shape}
use Rattle.cmd_drive.proofs.rehearse_words.read_rehearse.Goals as goal

pub returns-in_err-given-clause-asked : goal.returns-in_err-given-clause-asked
returns-in_err-given-clause-asked c = asked_err rehearse_shape _ rehearse_of _ _ _ _ c.plain.ensures c.from_residual.ensures.1 c.in_err-given.ensures.given

pub returns-clause-asked : goal.returns-clause-asked
returns-clause-asked c = asked_ok rehearse_shape _ rehearse_of _ _ _ c.plain.ensures c.in_ok-given.ensures.given c.rehearse_given.ensures.asked
