use Rattle.log_report.proofs.ReplayLaws.{migrates_one}
use Rattle.log_report.proofs.migrated.is_migratable.Goals as goal

pub returns-in-One : goal.returns-in-One
returns-in-One c = migrates_one c.args.labels.now c.args.system.now c.args.named.now _ c.in-One.is c.is_of.ensures
