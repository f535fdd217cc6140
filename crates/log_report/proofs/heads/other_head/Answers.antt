use Rattle.std.proofs.Common.{ap, ℕ, ◌+◌}
use Rattle.log_report.specs.Heads.{IsSameHead}
use Rattle.log_report.proofs.ReplayLaws.{holds_more, holds_all, other_first}
use Rattle.log_report.proofs.heads.other_head.Goals as goal

pub returns-in-Some : goal.returns-in-Some
returns-in-Some c = other_first _ _ _ _ _ _ _ c.named-item.is c.logs-test.true c.logs.invariant.number c.in-Some.ensures c.logs.invariant.same

pub logs-preserved : goal.logs-preserved
logs-preserved c = record {
  number = ap {A = ℕ} {B = ℕ} (λ n. n + 1) c.logs.invariant.number;
  same = holds_more (λ n. IsSameHead c.args.spec.now c.args.divergence n.head) _ _ _ c.named-item.is c.logs-test.true c.in-None.ensures c.logs.invariant.same;
}

pub returns : goal.returns
returns c = holds_all (λ n. IsSameHead c.args.spec.now c.args.divergence n.head) _ _ c.logs-test.false c.logs.invariant.same
