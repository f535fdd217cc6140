use Rattle.cmd_verify.specs.Asked.{request_from}
use Rattle.cmd_verify.specs.Verify.{verify_page}
use Rattle.tool_base.proofs.CommandLaws.{stopped_on_page}
use Rattle.cmd_verify.proofs.CheckLaws.{checkable}
use Rattle.cmd_verify.proofs.StopLaws.{cert_stopped, report_answers}
use Rattle.cmd_verify.proofs.command.on_files.Goals as goal

pub returns-in_err-cert-clause-page : goal.returns-in_err-cert-clause-page
returns-in_err-cert-clause-page g c =
    let asked = request_from c.args.request.now in
    stopped_on_page (verify_page (g.F.Files.told c.args.files.now).content asked) (g.F.Files.told c.args.files.now) (g.F.Files.told c.certificate.new.files) _ _ c.from_residual-in_err-cert.ensures.1
    (cert_stopped _ _ _ asked c.in_ok-both.both _ c.in_ok-both.ensures.keeps c.in_ok-both.ensures.loaded c.in_err-cert.ensures.loaded)

pub report-requires-clause-cert : goal.report-requires-clause-cert
report-requires-clause-cert g c = checkable _ c.in_ok-both.both _ c.in_ok-cert.cert c.in_ok-both.ensures.over c.in_ok-cert.ensures.loaded

pub returns-clause-page : goal.returns-clause-page
returns-clause-page g c = report_answers _ _ (request_from c.args.request.now) c.in_ok-both.both c.in_ok-cert.cert c.in_ok-report.report c.in_ok-both.ensures.keeps c.in_ok-both.ensures.loaded c.in_ok-cert.ensures.loaded c.in_ok-report.ensures
