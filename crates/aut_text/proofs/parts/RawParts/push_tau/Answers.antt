use Rattle.std.proofs.Common.{refl}
use Rattle.aut_text.proofs.parts.RawParts.push_tau.Goals as goal
use Rattle.aut_text.proofs.PartsLaws.{IsParts-push, Suits-tau, AddsMove-push}

pub invariant_of-self-2 : goal.invariant_of-self-2
invariant_of-self-2 c =
    let few = rw (← c.self.view_is) at c.requires.few in
    rw c.in_ok-push.ensures.ok (IsParts-push _ _ _ c.self.invariant (Suits-tau _ _ c.self.invariant few refl))

pub returns-clause-ok : goal.returns-clause-ok
returns-clause-ok c = rw (← c.self.view_is, c.in_ok-push.ensures.ok) (AddsMove-push _ _ _ _ c.self.invariant (λ a inside. refl) refl)
