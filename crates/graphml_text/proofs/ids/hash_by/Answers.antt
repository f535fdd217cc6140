use Rattle.graphml_text.proofs.NodeLaws.{moved_keys}
use Rattle.graphml_text.proofs.ids.hash_by.Goals as goal

pub returns : goal.returns
returns c = moved_keys (λ v. v.items) _ c.args.ids.now.keys _ c.in_ok-made.ensures.empty c.len.ensures.unique c.in_ok-append.ensures.keys
