use Rattle.std.proofs.Common.{rules, ◌≡◌, ◌∙◌, ◌+◌, ◌++◌, [], ◌∷◌, length, sym, ap, arith}
use Rattle.std.proofs.lemmas.List.{length-append}
use Rattle.lts_base.proofs.PackedLaws.{AreEnds-push, pieces-push}
use Rattle.cert_text.proofs.packed.PackedLists.push.Goals as goal

pub invariant_of-self-2 : goal.invariant_of-self-2
invariant_of-self-2 c =
    let end : c.in-Ok.end ≡ length c.self.inside.states.items + length c.args.list.now = search rules in
    let long : length (c.self.inside.states.items ++ c.args.list.now) ≡ c.in-Ok.end = length-append c.self.inside.states.items c.args.list.now ∙ sym end in
    rw (c.in_ok-extend_from_slice.ensures.items, c.push_reserved.ensures.items, c.in_ok-reserve.ensures.items, long)
    (AreEnds-push 0 (length c.self.inside.states.items) c.in-Ok.end c.self.inside.ends.items c.self.invariant (omega (arith, end)))

pub returns-clause-ok : goal.returns-clause-ok
returns-clause-ok c =
    let end : c.in-Ok.end ≡ length c.self.inside.states.items + length c.args.list.now = search rules in
    rw (c.in_ok-extend_from_slice.ensures.items, c.push_reserved.ensures.items, c.in_ok-reserve.ensures.items)
    (pieces-push c.self.inside.states.items c.args.list.now 0 c.in-Ok.end c.self.inside.ends.items c.self.invariant end ∙ ap (λ ts. ts ++ c.args.list.now ∷ []) c.self.view_is)
