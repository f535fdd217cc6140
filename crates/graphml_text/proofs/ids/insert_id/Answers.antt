use Rattle.graphml_text.proofs.NodeLaws.{node_keys}
use Rattle.graphml_text.proofs.ids.insert_id.Goals as goal

pub returns-clause-ok : goal.returns-clause-ok
returns-clause-ok c = node_keys (λ v. v.items) _ c.args.ids.now.keys c.args.id c.in_ok-insert_full.ensures.keys
