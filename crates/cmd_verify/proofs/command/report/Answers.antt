use Rattle.std.proofs.Common.{subst, sym}
use Rattle.cmd_verify.specs.Printable.{IsPrintableOutcome}
use Rattle.cmd_verify.proofs.CheckLaws.{printable}
use Rattle.cmd_verify.proofs.command.report.Goals as goal

pub verify_text-requires : goal.verify_text-requires
verify_text-requires c = rw c.outcome_of-outcome.ensures (printable c.args.both.now c.args.cert.now c.in_ok-answer.answer c.requires.over c.in_ok-answer.ensures)
