use Rattle.line_link.proofs.CutLaws.{hears_met}
use Rattle.line_link.proofs.laws.cuts_do_not_matter.Goals as goal

pub returns : goal.returns
returns c = hears_met
