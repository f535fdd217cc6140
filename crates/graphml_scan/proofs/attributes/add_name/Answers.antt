use Rattle.graphml_scan.proofs.TagLaws.{name_added}
use Rattle.graphml_scan.proofs.attributes.add_name.Goals as goal

pub returns : goal.returns
returns c = name_added (λ v. v.items) _ c.args.names.now.keys c.args.name _ c.in_ok-new.ensures.added c.in_ok-new.ensures.keys
