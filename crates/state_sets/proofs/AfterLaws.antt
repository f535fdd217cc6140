-- What the set after a trace shows and allows, as what is shown and allowed after the trace.
use Rattle.std.proofs.Common.{List, [], ◌∷◌, ◌++◌, ℕ, Bool, ◌↔◌}
use Rattle.std.specs.Prelude.{IsTrue}
use Rattle.lts_base.specs.declared.item.Item.{Item}
use Rattle.lts_base.specs.declared.item.Mode.{Mode}
use Rattle.lts_base.specs.System.{System, IsSystem, IsItemOf}
use Rattle.lts_base.specs.After.{IsSetAfter, Shows, ShowsAfter, Allows}
use Rattle.lts_base.specs.Conformance.{IsAllowed}
use Rattle.lts_base.proofs.SetLaws.{ShowsAfter-from_shows, Shows-from_after}
use Rattle.lts_base.proofs.AllowedLaws.{IsAllowed-push, IsAllowed-last}

pub shows_after : (s : System) (ps : List ℕ) (x : Item) (b : Bool) → (IsTrue b ↔ Shows s ps x) → (σ : List Item) → IsSetAfter s σ ps → (IsTrue b ↔ ShowsAfter s σ x)
shows_after s ps x b is σ set = (λ t. ShowsAfter-from_shows s σ ps x set (is.0 t), λ h. is.1 (Shows-from_after s σ ps x set h))

pub allows_after : (mode : Mode) (s : System) (ps : List ℕ) (x : Item) (b : Bool) → IsSystem s → IsItemOf s x → (IsTrue b ↔ Allows mode s ps x) → (σ : List Item) → IsSetAfter s σ ps → IsAllowed mode s σ →
    (IsTrue b ↔ IsAllowed mode s (σ ++ x ∷ []))
allows_after mode s ps x b system item is σ set allowed =
    (λ t. IsAllowed-push mode s σ x ps system item set allowed (is.0 t), λ h. is.1 (IsAllowed-last mode s σ x ps system set h))
