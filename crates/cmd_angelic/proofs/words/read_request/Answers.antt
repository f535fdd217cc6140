use Rattle.torx_words.proofs.AskedLaws.{asked_err, asked_ok}
use Rattle.cmd_angelic.specs.Angelic.{angelic_of, angelic_shape}
use Rattle.cmd_angelic.proofs.words.read_request.Goals as goal

pub returns-in_err-given : goal.returns-in_err-given
returns-in_err-given c = asked_err angelic_shape _ angelic_of _ _ _ _ c.plain.ensures c.from_residual.ensures.1 c.in_err-given.ensures.given

pub returns : goal.returns
returns c = asked_ok angelic_shape _ angelic_of _ _ _ c.plain.ensures c.in_ok-given.ensures.given c.request_of.ensures
