use Rattle.std.proofs.Common.{map, string_bytes}
use Rattle.torx_tool.proofs.ExactLaws.{exact_report, written_answer}
use Rattle.torx_tool.proofs.HeadlineLaws.{headline}
use Rattle.torx_tool.proofs.AuditLaws.{audited}
use Rattle.torx_tool.proofs.ServedLaws.{written_served}
use Rattle.torx_tool.proofs.run.run.Goals as goal

pub returns-clause-answered : goal.returns-clause-answered
returns-clause-answered g c =
    written_answer _ (map string_bytes c.args.words.now) (g.F.Files.told c.args.files.now).content c.answer-report.result _ _ _
    (exact_report _ (map string_bytes c.args.words.now) (g.F.Files.told c.args.files.now) (g.F.Files.told c.answer-report.new.files) c.answer-report.result c.answer-report.ensures.report) c.written.ensures

pub returns-clause-headline : goal.returns-clause-headline
returns-clause-headline g c =
    headline _ (map string_bytes c.args.words.now) (g.F.Files.told c.args.files.now) (g.F.Files.told c.answer-report.new.files) c.answer-report.result _ _ _ c.answer-report.ensures.report c.written.ensures

pub returns-clause-audited : goal.returns-clause-audited
returns-clause-audited g c =
    audited _ (map string_bytes c.args.words.now) (g.F.Files.told c.args.files.now) (g.F.Files.told c.answer-report.new.files) c.answer-report.result _ _ _ c.answer-report.ensures.report c.written.ensures
    (written_answer _ (map string_bytes c.args.words.now) (g.F.Files.told c.args.files.now).content c.answer-report.result _ _ _
    (exact_report _ (map string_bytes c.args.words.now) (g.F.Files.told c.args.files.now) (g.F.Files.told c.answer-report.new.files) c.answer-report.result c.answer-report.ensures.report) c.written.ensures)

pub returns-clause-served : goal.returns-clause-served
returns-clause-served g c = written_served (map string_bytes c.args.words.now) _ _ c.answer-report.result _ _ _ c.answer-report.ensures.served c.written.ensures
