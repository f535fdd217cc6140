use Rattle.std.proofs.Common.{◌∙◌, sym, ap, length}
use Rattle.lts_base.proofs.PackedLaws.{length-pieces}
use Rattle.cert_text.proofs.packed.PackedLists.len.Goals as goal

pub returns : goal.returns
returns c = c.len.ensures ∙ c.self.inside.ends.ok.0 ∙ sym (length-pieces c.self.inside.states.items 0 c.self.inside.ends.items) ∙ ap length c.self.view_is
