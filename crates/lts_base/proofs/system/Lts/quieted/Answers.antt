use Rattle.std.proofs.Common.{◌∙◌, sym, subst}
use Rattle.lts_base.specs.System.{System, AreCycleFlags}
use Rattle.lts_base.proofs.TauLaws.{IsLaidOut-quieted}
use Rattle.lts_base.proofs.system.Lts.quieted.Goals as goal

pub invariant_of-result : goal.invariant_of-result
invariant_of-result c =
    let flags = subst (λ (s : System). AreCycleFlags s c.in_ok-flags.flags.items) (sym c.self.view_is) c.in_ok-flags.ensures in
    rw (c.in_ok-from_slice.ensures.items ∙ c.deref.ensures.value, c.in_ok-from_slice-2.ensures.items ∙ c.deref-2.ensures.value)
    (IsLaidOut-quieted _ _ _ _ c.self.invariant flags)

pub returns-clause-system : goal.returns-clause-system
returns-clause-system c = (invariant_of-result c).system
