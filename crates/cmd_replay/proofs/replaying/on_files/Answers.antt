use Rattle.cmd_replay.specs.Asked.{request_from}
use Rattle.cmd_replay.specs.Replay.{replay_page}
use Rattle.tool_base.proofs.CommandLaws.{stopped_on_page}
use Rattle.cmd_replay.proofs.replaying.on_files.Goals as goal

pub returns-in_err-good-clause-page : goal.returns-in_err-good-clause-page
returns-in_err-good-clause-page g c =
    stopped_on_page (replay_page (g.F.Files.told c.args.files.now).content (request_from c.args.request.now)) (g.F.Files.told c.args.files.now) (g.F.Files.told c.load_logged.new.files) _ _ c.from_residual.ensures.1 c.in_err-good.ensures.loaded

pub returns-clause-page : goal.returns-clause-page
returns-clause-page g c = record {
  a = c.in_ok-good.good.labels;
  s = c.in_ok-good.good.system;
  digest = c.in_ok-good.good.digest;
  logs = c.in_ok-good.good.logs;
  good = c.in_ok-good.ensures.loaded;
  replayed = c.in_ok-report.ensures;
}
