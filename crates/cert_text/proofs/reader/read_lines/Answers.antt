use Rattle.text_scan.proofs.ListingLaws.{refused}
use Rattle.cert_text.proofs.ReadLaws.{IsReading-step, IsReading-fault, IsReading-end}
use Rattle.cert_text.proofs.reader.read_lines.Goals as goal

pub loop-line-preserved : goal.loop-line-preserved
loop-line-preserved c = IsReading-step _ _ _ _ _ _ _ _ _ _ c.loop-line.invariant c.in-Some.ensures c.in_ok-stage.ensures

pub returns-in_err-stage : goal.returns-in_err-stage
returns-in_err-stage c = refused _ _ _ _ c.from_residual.ensures.1 (IsReading-fault _ _ _ _ _ _ _ _ _ _ c.loop-line.invariant c.in-Some.ensures c.in_err-stage.ensures)

pub returns : goal.returns
returns c = IsReading-end _ _ _ _ _ _ _ _ c.loop-line.invariant c.in_default.ensures c.finish.ensures
