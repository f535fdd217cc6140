use Rattle.log_report.proofs.OnceLaws.{told_again}
use Rattle.log_report.proofs.migrated.migrate_logs.Goals as goal

pub returns-clause-again : goal.returns-clause-again
returns-clause-again c digest some = λ e. told_again _ _ c.args.spec.now c.args.divergence c.args.logs.now _ _ digest some c.requires.logs c.in_ok-migration.ensures e
