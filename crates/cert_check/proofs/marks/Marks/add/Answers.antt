use Rattle.std.proofs.Common.{◌≡◌, ◌<◌, length, get_or, true, false, sym, refl, ◌∙◌, inl}
use Rattle.std.proofs.lemmas.List.{get_or_read}
use Rattle.lts_base.proofs.MarkLaws.{IsMarked-push}
use Rattle.cert_check.proofs.marks.Marks.add.Goals as goal

pub returns-then-index-clause-added : goal.returns-then-index-clause-added
returns-then-index-clause-added c =
    let low : c.args.state < length c.self.inside.marked.items = rw (← c.self.view_is) at c.requires in
    let mark : get_or c.self.inside.marked.items c.args.state false ≡ true = sym (get_or_read _ _ _ low c.index.ensures false) ∙ c.if-index.true in
    rw (← c.self.view_is) (inl (refl, c.self.invariant.all c.args.state mark))

pub invariant_of-self-2 : goal.invariant_of-self-2
invariant_of-self-2 c =
    let low : c.args.state < length c.self.inside.marked.items = rw (← c.self.view_is) at c.requires in
    let mark : get_or c.self.inside.marked.items c.args.state false ≡ false = sym (get_or_read _ _ _ low c.index.ensures false) ∙ c.if-index.false in
    rw c.in_ok-push.ensures.items (IsMarked-push _ _ _ c.self.invariant low mark)
