use Rattle.line_link.proofs.OnceLaws.{met_once}
use Rattle.line_link.proofs.laws.one_thing_is_met.Goals as goal

pub returns : goal.returns
returns c = met_once
