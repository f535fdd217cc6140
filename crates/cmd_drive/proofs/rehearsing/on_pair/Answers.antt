use Rattle.cmd_drive.proofs.SimulateLaws.{fit_pair}
use Rattle.cmd_drive.proofs.rehearsing.on_pair.Goals as goal

pub pair_report-requires-clause-fit : goal.pair_report-requires-clause-fit
pair_report-requires-clause-fit g c = fit_pair _ _ _ _ c.in_ok-pair.ensures.loaded.0 c.in_ok-pair.ensures.loaded.1 c.in_ok-pair.ensures.over
