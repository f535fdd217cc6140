use Rattle.std.proofs.Common.{◌∙◌}
use Rattle.graphml_text.proofs.NodeLaws.{has_keys}
use Rattle.graphml_text.proofs.ids.has_text.Goals as goal

pub returns : goal.returns
returns c = c.is_some.ensures ∙ c.get_index_of.ensures.found ∙ has_keys (λ v. v.items) c.args.id.now c.args.ids.now.keys
