use Rattle.std.proofs.Common.{◌∙◌, ap, List, ℕ, ◌++◌}
use Rattle.log_report.specs.Migrated.{in_two}
use Rattle.log_report.proofs.ReplayLaws.{told_more}
use Rattle.log_report.proofs.migrated.text_in_two.Goals as goal

pub logs-preserved : goal.logs-preserved
logs-preserved c = told_more (in_two c.args.spec.now c.args.divergence) c.args.logs.now c.logs.named-index c.named-item.result _ _ c.in_ok-one.one _ c.logs-test.true c.named-item.is c.in_ok-one.ensures
    (c.in_ok-extend_from_slice.ensures.items ∙ ap {A = List ℕ} {B = List ℕ} (λ t. c.logs.text.items ++ t) c.as_slice.ensures) c.logs.invariant
