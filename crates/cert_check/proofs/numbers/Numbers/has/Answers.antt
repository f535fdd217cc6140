use Rattle.cert_check.proofs.NumberLaws.{has_iff}
use Rattle.cert_check.proofs.numbers.Numbers.has.Goals as goal

pub returns : goal.returns
returns c = has_iff (record { keys = c.args.self.now }) c.args.number _ (rw (← c.self.view_is) c.contains.ensures)
