use Rattle.cmd_drive.proofs.LedLaws.{led_result}
use Rattle.cmd_drive.proofs.RuleLaws.{drive_rules}
use Rattle.cmd_drive.proofs.session.linked.Goals as goal

pub returns-clause-led : goal.returns-clause-led
returns-clause-led g c = led_result _ _ _ _ _ _ _ _ _ _ _ c.drive-result.result c.outcome_of.result c.requires.new c.drive-result.ensures.logged c.outcome_of.ensures c.drive-result.ensures.broken c.drive-result.ensures.stalled c.hang_up.ensures.ended c.hang_up.ensures.faults c.hang_up.ensures.idles

pub returns-clause-rules : goal.returns-clause-rules
returns-clause-rules g c = drive_rules _ _ _ c.drive-result.result _ c.drive-result.ensures.logged
