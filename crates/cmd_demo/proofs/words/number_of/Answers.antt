use Rattle.torx_words.proofs.NumberLaws.{decimal_is}
use Rattle.cmd_demo.proofs.words.number_of.Goals as goal

pub returns : goal.returns
returns c = rw (← c.as_bytes.ensures.value) (decimal_is _ _ c.decimal.ensures)
