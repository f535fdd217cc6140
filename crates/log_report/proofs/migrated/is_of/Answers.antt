use Rattle.log_report.proofs.ReplayLaws.{of_told}
use Rattle.log_report.proofs.migrated.is_of.Goals as goal

pub returns : goal.returns
returns c = of_told c.args.labels.now c.args.system.now c.args.named.now _ _ _ _ c.inputs.ensures.alphabet c.in_ok-verdict.ensures (rw c.as_slice.ensures at c.told_by-told.ensures) c.is_same.ensures
