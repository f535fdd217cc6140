use Rattle.text_scan.proofs.ListingLaws.{refused}
use Rattle.log_text.proofs.ReadLaws.{IsReading-step, IsReading-fault, IsReading-end}
use Rattle.log_text.proofs.reader.read_lines.Goals as goal

pub returns-in_err-step : goal.returns-in_err-step
returns-in_err-step c = refused _ _ _ _ c.from_residual.ensures.1 (IsReading-fault _ _ _ _ _ _ _ _ c.loop-line.invariant c.in-Some.ensures c.in_err-step.ensures)

pub loop-line-preserved : goal.loop-line-preserved
loop-line-preserved c = IsReading-step _ _ _ _ _ _ _ _ _ _ c.loop-line.invariant c.in-Some.ensures c.in_ok-step.ensures c.in_ok-stage.ensures

pub returns : goal.returns
returns c = IsReading-end _ _ _ _ _ _ c.loop-line.invariant c.in_default.ensures c.finish.ensures
