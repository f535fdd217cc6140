use Rattle.log_text.proofs.LogsOnce.{logs_only, refuses_only, few_logs}
use Rattle.log_text.proofs.reader.read_logs.Goals as goal

pub returns-clause-only : goal.returns-clause-only
returns-clause-only c logs are = logs_only _ logs _ c.read_lines.ensures are

pub returns-clause-fault : goal.returns-clause-fault
returns-clause-fault c e fault other = refuses_only _ e _ c.read_lines.ensures fault other

pub returns-clause-few : goal.returns-clause-few
returns-clause-few c = few_logs _ _ c.read_lines.ensures
