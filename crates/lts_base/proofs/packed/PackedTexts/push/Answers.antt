use Rattle.std.proofs.Common.{rules, ◌≡◌, ◌∙◌, ◌+◌, ◌++◌, [], ◌∷◌, length, sym, ap, arith}
use Rattle.std.proofs.lemmas.List.{length-append}
use Rattle.lts_base.proofs.PackedLaws.{AreEnds-push, pieces-push}
use Rattle.lts_base.proofs.packed.PackedTexts.push.Goals as goal

pub invariant_of-self-2 : goal.invariant_of-self-2
invariant_of-self-2 c =
    let end : c.in-Ok.end ≡ length c.self.inside.bytes.items + length c.args.text.now = search rules in
    let long : length (c.self.inside.bytes.items ++ c.args.text.now) ≡ c.in-Ok.end = length-append c.self.inside.bytes.items c.args.text.now ∙ sym end in
    rw (c.in_ok-extend_from_slice.ensures.items, c.push_reserved.ensures.items, c.in_ok-reserve.ensures.items, long)
    (AreEnds-push 0 (length c.self.inside.bytes.items) c.in-Ok.end c.self.inside.ends.items c.self.invariant (omega (arith, end)))

pub returns-clause-ok : goal.returns-clause-ok
returns-clause-ok c =
    let end : c.in-Ok.end ≡ length c.self.inside.bytes.items + length c.args.text.now = search rules in
    rw (c.in_ok-extend_from_slice.ensures.items, c.push_reserved.ensures.items, c.in_ok-reserve.ensures.items)
    (pieces-push c.self.inside.bytes.items c.args.text.now 0 c.in-Ok.end c.self.inside.ends.items c.self.invariant end ∙ ap (λ ts. ts ++ c.args.text.now ∷ []) c.self.view_is)
