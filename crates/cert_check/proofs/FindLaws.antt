-- Laws on the steps from one state that are seen as an item.
use Rattle.std.proofs.Common.{◌≡◌, ℕ, List, subst}
use Rattle.std.proofs.lemmas.List.Elements.{All-weaker}
use Rattle.lts_base.specs.declared.action.Act.TheVariants.{Label}
use Rattle.lts_base.specs.declared.item.Item.TheVariants.{Input, Output, Delta}
use Rattle.lts_base.specs.System.{System, HasMove, IsQuiet, IsItemOf}
use Rattle.lts_base.specs.Path.{IsSeen}
use Rattle.lts_base.proofs.Leads.{IsSeen-input, IsSeen-output, IsSeen-delta, IsSeen-from_input, IsSeen-from_output, IsSeen-from_quiet}
use Rattle.lts_base.specs.Finds.{Adds}

-- the same states were added by a word that says the same
Adds-alike : (P Q : ℕ → Type 0) (old new : List ℕ) → ((r : ℕ) → P r → Q r) → ((r : ℕ) → Q r → P r) → Adds P old new → Adds Q old new
Adds-alike P Q old new into back adds =
    let (more, grown, each) = adds.kept in
    record {
      kept = (more, grown, All-weaker P Q into more each);
      all = λ r has. adds.all r (back r has);
    }

-- what the moves with the label of an input or output lead to is what a step seen as it leads to
pub AreSeen-input : (s : System) (p : ℕ) (old new : List ℕ) (a : ℕ) → IsItemOf s (Input a) → Adds (HasMove s p (Label a)) old new → Adds (IsSeen s p (Input a)) old new
AreSeen-input s p old new a item = Adds-alike (HasMove s p (Label a)) (IsSeen s p (Input a)) old new (λ r has. IsSeen-from_input s p a r item has) (λ r seen. (IsSeen-input s p a r seen).0)

-- the same for an output
pub AreSeen-output : (s : System) (p : ℕ) (old new : List ℕ) (a : ℕ) → IsItemOf s (Output a) → Adds (HasMove s p (Label a)) old new → Adds (IsSeen s p (Output a)) old new
AreSeen-output s p old new a item = Adds-alike (HasMove s p (Label a)) (IsSeen s p (Output a)) old new (λ r has. IsSeen-from_output s p a r item.0 has) (λ r seen. (IsSeen-output s p a r seen).0)

-- the quiet state is what a step seen as `delta` leads to
pub AreSeen-delta : (s : System) (p : ℕ) (old new : List ℕ) → Adds (λ r. IsQuiet s p × (p ≡ r)) old new → Adds (IsSeen s p Delta) old new
AreSeen-delta s p old new = Adds-alike (λ r. IsQuiet s p × (p ≡ r)) (IsSeen s p Delta) old new
    (λ r rests. subst (λ z. IsSeen s p Delta z) rests.1 (IsSeen-from_quiet s p rests.0)) (λ r seen. IsSeen-delta s p r seen)
