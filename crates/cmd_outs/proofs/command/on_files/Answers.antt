use Rattle.cmd_outs.specs.Asked.{request_from}
use Rattle.cmd_outs.specs.Outs.{outs_page}
use Rattle.tool_base.proofs.CommandLaws.{stopped_on_page}
use Rattle.cmd_outs.proofs.StopLaws.{trace_stopped}
use Rattle.cmd_outs.proofs.command.on_files.Goals as goal

pub returns-in_err-trace-clause-page : goal.returns-in_err-trace-clause-page
returns-in_err-trace-clause-page g c =
    let asked = request_from c.args.request.now in
    stopped_on_page (outs_page (g.F.Files.told c.args.files.now).content asked) (g.F.Files.told c.args.files.now) (g.F.Files.told c.trace_of.new.files) _ _ c.from_residual-in_err-trace.ensures.1
    (trace_stopped _ _ _ asked _ _ _ c.in_ok-one.ensures.keeps c.in_ok-one.ensures.loaded c.in_err-trace.ensures.loaded)
