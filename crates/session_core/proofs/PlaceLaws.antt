-- A node of what was done goes on.
use Rattle.std.proofs.Common.{◌≡◌, ℕ, ◌+◌, ◌<◌, ◌≤◌, ◌↔◌, Bool, IsTrue, List, [], ◌∷◌, ◌++◌, length, Option, Some, None, refl, ap, sym, ◌∙◌, arith, length-append}
use Rattle.std.proofs.lemmas.List.{get_or_append_left}
use Rattle.lts_base.specs.declared.item.Item.{Item}
use Rattle.lts_base.specs.declared.item.Mode.{Mode}
use Rattle.lts_base.specs.System.{System, IsItemOf}
use Rattle.lts_base.specs.Path.{Has}
use Rattle.lts_base.specs.After.{IsSetAfter, Shows, ShowsAfter, Allows}
use Rattle.lts_base.specs.Conformance.{IsAllowed}
use Rattle.lts_base.proofs.SetLaws.{IsSetAfter-next, Has-set_some, ShowsAfter-from_shows, Shows-from_after}
use Rattle.lts_base.proofs.AllowedLaws.{IsAllowed-last, IsAllowed-push, IsAllowed-has}
use Rattle.walk_core.specs.Walked.{Walked, set_at, IsWalk, Grows, IsStep}
use Rattle.session_core.specs.Placed.{IsAt}

pub allowed_at : (w : Walked) (mode : Mode) (k : ℕ) (x : Item) (b : Bool) (σ : List Item) → IsItemOf w.system x → IsAt w mode k σ → (IsTrue b ↔ Allows mode w.system (set_at w.sets k) x) → IsTrue b ↔ IsAllowed mode w.system (σ ++ x ∷ [])
allowed_at w mode k x b σ item at answer = (
  λ h. IsAllowed-push mode w.system σ x (set_at w.sets k) at.walk.system item at.set at.allowed (answer.0 h),
  λ h. answer.1 (IsAllowed-last mode w.system σ x (set_at w.sets k) at.walk.system at.set h),
)

pub shown_at : (w : Walked) (mode : Mode) (k : ℕ) (x : Item) (b : Bool) (σ : List Item) → IsAt w mode k σ → (IsTrue b ↔ Shows w.system (set_at w.sets k) x) → IsTrue b ↔ ShowsAfter w.system σ x
shown_at w mode k x b σ at answer =
    (λ h. ShowsAfter-from_shows w.system σ (set_at w.sets k) x at.set (answer.0 h), λ h. answer.1 (Shows-from_after w.system σ (set_at w.sets k) x at.set h))

-- a node stays the node of its items
pub at_kept : (w v : Walked) (mode : Mode) (k : ℕ) (σ : List Item) → Grows w v → IsWalk v → IsAt w mode k σ → IsAt v mode k σ
at_kept w v mode k σ grows walk at =
    let (more, joined) = grows.sets in
    let same : set_at v.sets k ≡ set_at w.sets k = rw joined (get_or_append_left w.sets more [] k at.within) in
    let long : length v.sets ≡ length w.sets + length more = rw joined (length-append w.sets more) in
    record {
      walk = walk;
      within = omega (arith, at.within, long);
      set = rw (grows.system, same) at.set;
      allowed = rw grows.system at.allowed;
    }

-- a step leads to the node of the items with one more
pub at_next : (w v : Walked) (mode : Mode) (k n : ℕ) (x : Item) (σ : List Item) → Grows w v → IsWalk v → IsAt w mode k σ → IsAllowed mode w.system (σ ++ x ∷ []) → IsStep w v k x (Some n) → IsAt v mode n (σ ++ x ∷ [])
at_next w v mode k n x σ grows walk at allowed (qs, next, set, sets, within, here) =
    record {
      walk = walk;
      within = within;
      set = rw (grows.system, here) (IsSetAfter-next w.system x σ (set_at w.sets k) qs at.set next);
      allowed = rw grows.system allowed;
    }

-- an item that is allowed leads somewhere
pub at_some : (w v : Walked) (mode : Mode) (k : ℕ) (x : Item) (σ : List Item) → IsAt w mode k σ → IsAllowed mode w.system (σ ++ x ∷ []) → IsStep w v k x None → ⊥
at_some w v mode k x σ at allowed (next, sets) =
    let some = Has-set_some w.system (σ ++ x ∷ []) [] (IsSetAfter-next w.system x σ (set_at w.sets k) [] at.set next) (IsAllowed-has mode w.system (σ ++ x ∷ []) allowed) in
    omega (arith, some)
