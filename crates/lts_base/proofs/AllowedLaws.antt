-- Laws on allowed traces.
use Rattle.std.proofs.Common.{◌≡◌, ℕ, List, [], ◌∷◌, ◌++◌, inl, inr, refl, sym, ◌∙◌}
use Rattle.std.proofs.lemmas.List.{append_assoc, same_from_push}
use Rattle.std.proofs.lemmas.List.Elements.{All-contains}
use Rattle.lts_base.specs.declared.item.Item.{Item}
use Rattle.lts_base.specs.declared.item.Item.TheVariants.{Input, Output, Delta}
use Rattle.lts_base.specs.declared.item.Mode.{Mode}
use Rattle.lts_base.specs.declared.item.Mode.TheVariants.{Ioco, Uioco}
use Rattle.lts_base.specs.System.{System, IsSystem, IsItemOf, IsStable, Takes}
use Rattle.lts_base.specs.Path.{Ends, Has}
use Rattle.lts_base.specs.After.{IsSetAfter, Allows, AllStableTake}
use Rattle.lts_base.specs.Conformance.{IsAllowed, IsUtraceAlong}
use Rattle.lts_base.proofs.ListLaws.{snoc_cases}
use Rattle.lts_base.proofs.Leads.{Leads-here, Ends-push, IsSeen-input, IsSeen-from_input}
use Rattle.lts_base.proofs.SetLaws.{Has-front, Ends-last, Gives-from_output, Gives-from_delta, Gives-seen}

-- no list with an item in it is empty
no_item : {X : Type 0} (xs ys : List X) (x : X) → [] ≡ xs ++ x ∷ ys → ⊥
no_item [] ys x e = cc
no_item (y ∷ xs) ys x e = cc

pub IsUtraceAlong-nil : (s : System) → IsUtraceAlong s []
IsUtraceAlong-nil s τ ρ a e q ends stable = absurd (no_item τ ρ (Input a) e)

pub IsUtraceAlong-front : (s : System) (σ : List Item) (x : Item) → IsUtraceAlong s (σ ++ x ∷ []) → IsUtraceAlong s σ
IsUtraceAlong-front s σ x along τ ρ a e q ends stable =
    let longer : σ ++ x ∷ [] ≡ τ ++ Input a ∷ (ρ ++ x ∷ []) = rw e (append_assoc τ (Input a ∷ ρ) (x ∷ [])) in
    along τ (ρ ++ x ∷ []) a longer q ends stable

-- along a trace with one item more: along the trace, and where the item is an input each stable state that ends the trace takes it
pub IsUtraceAlong-push : (s : System) (σ : List Item) (x : Item) → IsUtraceAlong s σ → ((a : ℕ) → x ≡ Input a → (q : ℕ) → Ends s σ q → IsStable s q → Takes s q a) → IsUtraceAlong s (σ ++ x ∷ [])
IsUtraceAlong-push s σ x along last τ ρ a e q ends stable = elim (snoc_cases ρ) [
  | inl none ↦
      let e' : σ ++ x ∷ [] ≡ τ ++ Input a ∷ [] = rw none at e in
      let same = same_from_push σ τ x (Input a) e' in
      last a same.1 q (rw same.0 ends) stable
  | inr (front, y, some) ↦
      let e' : σ ++ x ∷ [] ≡ τ ++ Input a ∷ (front ++ y ∷ []) = rw some at e in
      let e'' : σ ++ x ∷ [] ≡ (τ ++ Input a ∷ front) ++ y ∷ [] = e' ∙ sym (append_assoc τ (Input a ∷ front) (y ∷ [])) in
      along τ front a (same_from_push σ (τ ++ Input a ∷ front) x y e'').0 q ends stable
]

-- the empty trace is allowed
pub IsAllowed-nil : (mode : Mode) (s : System) → IsAllowed mode s []
IsAllowed-nil Ioco s = (s.start, Leads-here s s.start)
IsAllowed-nil Uioco s = ((s.start, Leads-here s s.start), IsUtraceAlong-nil s)

-- the specification has each trace that it allows
pub IsAllowed-has : (mode : Mode) (s : System) (σ : List Item) → IsAllowed mode s σ → Has s σ
IsAllowed-has Ioco s σ allowed = allowed
IsAllowed-has Uioco s σ allowed = allowed.0

-- with a trace its front is allowed
pub IsAllowed-front : (mode : Mode) (s : System) (σ : List Item) (x : Item) → IsAllowed mode s (σ ++ x ∷ []) → IsAllowed mode s σ
IsAllowed-front Ioco s σ x allowed = Has-front s σ x allowed
IsAllowed-front Uioco s σ x allowed = (Has-front s σ x allowed.0, IsUtraceAlong-front s σ x allowed.1)

-- under uioco each stable state that ends the trace takes the input that comes next
pub AllStableTake-from_allowed : (mode : Mode) (s : System) (σ : List Item) (a : ℕ) (ps : List ℕ) → IsSetAfter s σ ps → IsAllowed mode s (σ ++ Input a ∷ []) → AllStableTake mode s ps a
AllStableTake-from_allowed Ioco s σ a ps set allowed = tt
AllStableTake-from_allowed Uioco s σ a ps set allowed = λ q inside stable.
    allowed.1 σ [] a refl q (All-contains (Ends s σ) ps q set.each inside) stable

-- the set after a trace allows the item that comes next in an allowed trace
pub IsAllowed-last : (mode : Mode) (s : System) (σ : List Item) (x : Item) (ps : List ℕ) → IsSystem s → IsSetAfter s σ ps → IsAllowed mode s (σ ++ x ∷ []) → Allows mode s ps x
IsAllowed-last mode s σ (Input a) ps system set allowed =
    let (q, ends) = IsAllowed-has mode s (σ ++ Input a ∷ []) allowed in
    let (p, r, before, seen, silent) = Ends-last s σ (Input a) q ends in
    ((p, set.all p before, (r, (IsSeen-input s p a r seen).0)), AllStableTake-from_allowed mode s σ a ps set allowed)
IsAllowed-last mode s σ (Output a) ps system set allowed =
    let (q, ends) = IsAllowed-has mode s (σ ++ Output a ∷ []) allowed in
    let (p, r, before, seen, silent) = Ends-last s σ (Output a) q ends in
    (p, set.all p before, Gives-from_output s p a r seen)
IsAllowed-last mode s σ Delta ps system set allowed =
    let (q, ends) = IsAllowed-has mode s (σ ++ Delta ∷ []) allowed in
    let (p, r, before, seen, silent) = Ends-last s σ Delta q ends in
    (p, set.all p before, Gives-from_delta s p r seen)

-- what the set after a trace allows, and is an item of the alphabet, makes a longer trace that the system has
pub Has-from_allows : (mode : Mode) (s : System) (σ : List Item) (x : Item) (ps : List ℕ) → IsItemOf s x → IsSetAfter s σ ps → Allows mode s ps x → Has s (σ ++ x ∷ [])
Has-from_allows mode s σ (Input a) ps item set allows =
    let ((q, inside, (r, takes)), stable) = allows in
    (r, Ends-push s σ q (Input a) r (All-contains (Ends s σ) ps q set.each inside) (IsSeen-from_input s q a r item takes))
Has-from_allows mode s σ (Output a) ps item set (q, inside, gives) =
    let (r, seen) = Gives-seen s q (Output a) item gives in
    (r, Ends-push s σ q (Output a) r (All-contains (Ends s σ) ps q set.each inside) seen)
Has-from_allows mode s σ Delta ps item set (q, inside, gives) =
    let (r, seen) = Gives-seen s q Delta item gives in
    (r, Ends-push s σ q Delta r (All-contains (Ends s σ) ps q set.each inside) seen)

-- an allowed trace and an item of the alphabet that the set after it allows make an allowed trace
pub IsAllowed-push : (mode : Mode) (s : System) (σ : List Item) (x : Item) (ps : List ℕ) → IsSystem s → IsItemOf s x → IsSetAfter s σ ps → IsAllowed mode s σ → Allows mode s ps x → IsAllowed mode s (σ ++ x ∷ [])
IsAllowed-push Ioco s σ x ps system item set allowed allows = Has-from_allows Ioco s σ x ps item set allows
IsAllowed-push Uioco s σ x ps system item set allowed allows =
    (Has-from_allows Uioco s σ x ps item set allows, IsUtraceAlong-push s σ x allowed.1 (λ a e. takes x allows a e))
  where
    takes : (y : Item) → Allows Uioco s ps y → (a : ℕ) → y ≡ Input a → (q : ℕ) → Ends s σ q → IsStable s q → Takes s q a
    takes (Input b) (some, stable_take) a e q ends stable =
        let same : b ≡ a = cc in
        rw same at (stable_take q (set.all q ends) stable)
    takes (Output b) allows a e q ends stable = cc
    takes Delta allows a e q ends stable = cc
