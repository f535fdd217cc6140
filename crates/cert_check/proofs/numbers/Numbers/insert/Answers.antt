use Rattle.cert_check.proofs.NumberLaws.{fresh_iff, enters}
use Rattle.cert_check.proofs.numbers.Numbers.insert.Goals as goal

pub returns-clause-fresh : goal.returns-clause-fresh
returns-clause-fresh c = rw (← c.self.view_is) (fresh_iff c.self.inside.set c.args.number _ c.in_ok-fresh.ensures.added)

pub returns-clause-enters : goal.returns-clause-enters
returns-clause-enters c = rw (← c.self.view_is) (enters c.self.inside.set c.insert.new.self c.args.number c.in_ok-fresh.ensures.updates)
