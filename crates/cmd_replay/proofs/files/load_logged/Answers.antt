use Rattle.std.proofs.Common.{subst, sym}
use Rattle.tool_base.proofs.StoppedLaws.{passed_on}
use Rattle.cmd_replay.specs.Asked.{request_from}
use Rattle.cmd_replay.proofs.StopLaws.{spec_stopped, logs_stopped, heads_stopped, good_all, good_over}
use Rattle.cmd_replay.proofs.files.load_logged.Goals as goal

pub returns-in_err-one-clause-loaded : goal.returns-in_err-one-clause-loaded
returns-in_err-one-clause-loaded g c = passed_on _ _ _ _ c.from_residual.ensures.1 (spec_stopped _ _ (request_from c.args.request.now) _ c.in_err-one.ensures.loaded)

pub returns-in_err-logs-clause-loaded : goal.returns-in_err-logs-clause-loaded
returns-in_err-logs-clause-loaded g c =
    passed_on _ _ _ _ c.from_residual-in_err-logs.ensures.1 (logs_stopped _ _ _ (request_from c.args.request.now) c.in_ok-one.one _ c.in_ok-one.ensures.keeps c.in_ok-one.ensures.loaded c.in_err-logs.ensures.loaded)
