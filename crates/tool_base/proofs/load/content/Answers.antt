use Rattle.std.proofs.Common.{ap, Err}
use Rattle.tool_base.proofs.LoadLaws.{too_long_told}
use Rattle.tool_base.proofs.load.content.Goals as goal

pub returns-in-Err-TooLong-clause-loaded : goal.returns-in-Err-TooLong-clause-loaded
returns-in-Err-TooLong-clause-loaded g c = too_long_told _ _ _ _ _ (c.in-Err-TooLong.ensures.long (ap Err c.in-Err-TooLong.field-0-is)) c.too_long.ensures
