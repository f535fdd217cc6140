use Rattle.std.proofs.Common.{ap, ℕ, ◌+◌}
use Rattle.std.proofs.lemmas.Bool.{iff_false}
use Rattle.log_report.specs.Migrated.{IsMigratable}
use Rattle.log_report.proofs.ReplayLaws.{holds_more, holds_all, not_of_first}
use Rattle.log_report.proofs.migrated.first_not_of.Goals as goal

pub returns-then-not-good : goal.returns-then-not-good
returns-then-not-good c = not_of_first _ _ _ _ _ _ c.named-item.is c.logs-test.true c.logs.invariant.number (iff_false c.in_ok-good.ensures c.if-not-good.true) c.logs.invariant.good

pub logs-preserved : goal.logs-preserved
logs-preserved c = record {
  number = ap {A = ℕ} {B = ℕ} (λ n. n + 1) c.logs.invariant.number;
  good = holds_more (IsMigratable c.args.labels.now c.args.system.now) _ _ _ c.named-item.is c.logs-test.true (c.in_ok-good.ensures.0 c.if-not-good.false) c.logs.invariant.good;
}

pub returns : goal.returns
returns c = holds_all (IsMigratable c.args.labels.now c.args.system.now) _ _ c.logs-test.false c.logs.invariant.good
