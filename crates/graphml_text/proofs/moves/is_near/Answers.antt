use Rattle.std.proofs.Common.{◌∙◌, sym}
use Rattle.graphml_text.proofs.JoinLaws.{near_key}
use Rattle.graphml_text.proofs.moves.is_near.Goals as goal

pub returns-in-Some-get_index : goal.returns-in-Some-get_index
returns-in-Some-get_index c same = c.in-Some.is ∙ near_key (λ v. v.items) c.args.nodes.now.keys c.in-Some.place c.in-Some-get_index.known.now c.args.id.now (rw c.in-Some.is at c.requires) c.in-Some-get_index.ensures.key (rw c.as_slice.ensures.value at (sym c.is_same.ensures ∙ same))
