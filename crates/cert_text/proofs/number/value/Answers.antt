use Rattle.cert_text.proofs.NumberLaws.{valued}
use Rattle.cert_text.proofs.number.value.Goals as goal

pub returns : goal.returns
returns c = valued _ _ c.requires c.decimal.ensures
