use Rattle.std.proofs.Common.{refl}
use Rattle.aut_text.proofs.parts.RawParts.push_numbered.Goals as goal
use Rattle.aut_text.proofs.PartsLaws.{IsParts-push, Suits-known, AddsMove-push}

pub invariant_of-self-2 : goal.invariant_of-self-2
invariant_of-self-2 c =
    let few = rw (← c.self.view_is) at c.requires.few in
    let known = rw (← c.self.view_is) at c.requires.known in
    rw c.in_ok-push.ensures.ok (IsParts-push _ _ _ c.self.invariant (Suits-known _ _ _ _ c.self.invariant few (known, refl) refl))

pub returns-clause-ok : goal.returns-clause-ok
returns-clause-ok c = rw (← c.self.view_is, c.in_ok-push.ensures.ok) (AddsMove-push _ _ _ _ c.self.invariant (λ a inside. refl) refl)
