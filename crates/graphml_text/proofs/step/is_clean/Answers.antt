use Rattle.graphml_text.proofs.LabelLaws.{plain_same, plain_control}
use Rattle.graphml_text.proofs.step.is_clean.Goals as goal

pub returns-clause-control : goal.returns-clause-control
returns-clause-control c plain = plain_control c.args.text.now (c.is_plain.ensures.0 plain)

pub returns-clause-same : goal.returns-clause-same
returns-clause-same c plain = plain_same c.args.text.now (c.is_plain.ensures.0 plain)
