use Rattle.std.proofs.Common.{◌≡◌, ◌++◌, [], true, false, rules, refl}
use Rattle.aut_text.specs.Grammar.{is_text}
use Rattle.aut_text.proofs.TextLaws.{text_more, IsKept-skip}
use Rattle.aut_text.proofs.unfinished.Unfinished.add.Goals as goal

pub returns-then-is_text_with : goal.returns-then-is_text_with
returns-then-is_text_with c line kept =
    let text : is_text (c.args.self.now.bytes ++ c.args.more.now) ≡ true = search rules in
    (c.if-has_room.ensures.no refl line kept, text_more line c.args.more.now c.args.self.now kept text)

pub returns : goal.returns
returns c line kept =
    let none : is_text (c.args.self.now.bytes ++ c.args.more.now) ≡ false = search rules in
    let some : c.args.more.now ≡ [] → ⊥ = search rules in
    rw (c.in_ok-skip.ensures) (IsKept-skip line c.args.more.now c.args.self.now some kept none (c.if-has_room.ensures.no refl line kept))
