use Rattle.std.proofs.Common.{refl}
use Rattle.torx_words.proofs.AskedLaws.{asked_err, asked_ok}
use Rattle.cmd_drive.specs.Asked.{drive_of, drive_shape}
use Rattle.cmd_drive.proofs.words.read_drive.Goals as goal

pub returns-in_err-given-clause-asked : goal.returns-in_err-given-clause-asked
returns-in_err-given-clause-asked c = asked_err drive_shape _ drive_of _ _ _ _ refl c.from_residual.ensures.1 c.in_err-given.ensures.given

pub returns-clause-asked : goal.returns-clause-asked
returns-clause-asked c = asked_ok drive_shape _ drive_of _ _ _ refl c.in_ok-given.ensures.given c.drive_given.ensures.asked
