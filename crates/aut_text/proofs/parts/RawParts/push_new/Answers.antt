use Rattle.std.proofs.Common.{inr, refl}
use Rattle.aut_text.specs.Parts.{IsNumber}
use Rattle.aut_text.proofs.parts.RawParts.push_new.Goals as goal
use Rattle.aut_text.proofs.PartsLaws.{IsParts-push, Suits-label, AddsMove-push, IsNumber-keeps, named_at}

pub invariant_of-self-in-Ok : goal.invariant_of-self-in-Ok
invariant_of-self-in-Ok c =
    let few = rw (← c.self.view_is) at c.requires.few in
    let new = rw (← c.self.view_is) at c.requires.new in
    let number : IsNumber c.self.inside.labels c.add.new.self c.args.text.now c.count.result = inr (c.in-Ok.ensures.ok, c.count.ensures, new) in
    rw c.in_ok-push.ensures.ok (IsParts-push _ _ _ c.self.invariant (Suits-label _ _ _ _ _ c.self.invariant few c.add.ensures.texts number refl))

pub returns-in-Ok-clause-ok : goal.returns-in-Ok-clause-ok
returns-in-Ok-clause-ok c =
    let new = rw (← c.self.view_is) at c.requires.new in
    let number : IsNumber c.self.inside.labels c.add.new.self c.args.text.now c.count.result = inr (c.in-Ok.ensures.ok, c.count.ensures, new) in
    rw (← c.self.view_is, c.in_ok-push.ensures.ok) (AddsMove-push _ _ _ _ c.self.invariant (IsNumber-keeps _ _ _ _ number) (named_at _ _ _ _ _ _ number))
