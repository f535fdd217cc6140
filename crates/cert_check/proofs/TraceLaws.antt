-- Laws on the check of a trace.
use Rattle.std.proofs.Common.{◌≡◌, ℕ, ◌+◌, ◌<◌, ◌≤◌, List, [], ◌∷◌, ◌++◌, length, take, drop, get_or, inl, inr, refl, arith}
use Rattle.std.proofs.lemmas.List.{take_more, append-nil, append_assoc, take-append-drop}
use Rattle.std.proofs.lemmas.Bool.{cases_lt}
use Rattle.lts_base.specs.declared.item.Item.{Item}
use Rattle.lts_base.specs.declared.item.Mode.{Mode}
use Rattle.lts_base.specs.System.{System, IsSystem, IsItemOf}
use Rattle.lts_base.specs.After.{IsSetAfter, Allows, Shows, ShowsAfter}
use Rattle.lts_base.specs.Next.{IsNext}
use Rattle.lts_base.specs.Conformance.{IsAllowed, IsViolation}
use Rattle.lts_base.proofs.SetLaws.{IsSetAfter-next, Shows-from_after}
use Rattle.lts_base.proofs.AllowedLaws.{IsAllowed-nil, IsAllowed-push, IsAllowed-last, IsAllowed-front}
use Rattle.cert_check.specs.declared.checked.Checked.{Checked}
use Rattle.cert_check.specs.declared.checked.Checked.TheVariants.{Accepted, Start, Outputs, NotClosed, NotAllowed, NotShown, Allowed}
use Rattle.cert_check.specs.Checks.{IsFirstNotAllowed, IsCheckedTrace}

-- the list is the set after the first n items
pub record IsSetAt (s : System) (items : List Item) (n : ℕ) (set : List ℕ) : Type 0 where
  pub set_after : IsSetAfter s (take n items) set

-- the opening set is the set after no items
pub set_at-none : (s : System) (items : List Item) (set : List ℕ) → IsSetAfter s [] set → IsSetAt s items 0 set
set_at-none s items set opening = record { set_after = opening }

-- one step leads to the set after one item more
pub set_at-more : (s : System) (items : List Item) (n : ℕ) (d : Item) (set next : List ℕ) → n < length items → IsNext s (get_or items n d) set next → IsSetAt s items n set → IsSetAt s items (n + 1) next
set_at-more s items n d set next below step is = record {
  set_after = rw (take_more items n d below) (IsSetAfter-next s (get_or items n d) (take n items) set next is.set_after step);
}

-- the first n items are an allowed trace, as all shorter prefixes are, and the list is the set after them
pub record IsAllowedTo (mode : Mode) (s : System) (items : List Item) (n : ℕ) (set : List ℕ) : Type 0 where
  pub set_here : IsSetAt s items n set
  pub allowed : (j : ℕ) → j ≤ n → IsAllowed mode s (take j items)

-- no items are an allowed trace
pub allowed_to-none : (mode : Mode) (s : System) (items : List Item) (set : List ℕ) → IsSetAfter s [] set → IsAllowedTo mode s items 0 set
allowed_to-none mode s items set opening = record {
  set_here = set_at-none s items set opening;
  allowed = λ j low. let none : j ≡ 0 = omega (arith, low) in rw none (IsAllowed-nil mode s);
}

-- the set allows the next item
pub allowed_to-more : (mode : Mode) (s : System) (items : List Item) (n : ℕ) (d : Item) (set next : List ℕ) → IsSystem s → n < length items → IsItemOf s (get_or items n d) →
    Allows mode s set (get_or items n d) → IsNext s (get_or items n d) set next → IsAllowedTo mode s items n set → IsAllowedTo mode s items (n + 1) next
allowed_to-more mode s items n d set next system below item allows step is = record {
  set_here = set_at-more s items n d set next below step is.set_here;
  allowed = λ j low. elim (cases_lt n j) [
    | inr before ↦ is.allowed j before
    | inl after ↦
        let same : j ≡ n + 1 = omega (arith, low, after) in
        rw (same, take_more items n d below)
        (IsAllowed-push mode s (take n items) (get_or items n d) set system item is.set_here.set_after (is.allowed n (omega arith)) allows)
  ];
}

-- the set doesn't allow the next item
pub allowed_to-off : (mode : Mode) (s : System) (items : List Item) (n : ℕ) (d : Item) (set : List ℕ) (number : ℕ) → IsSystem s → n < length items → (Allows mode s set (get_or items n d) → ⊥) →
    number ≡ n + 1 → IsAllowedTo mode s items n set → IsFirstNotAllowed mode s items number
allowed_to-off mode s items n d set number system below lacks is_next is = rw is_next (record {
  within = omega (arith, below);
  before = λ j less. is.allowed j (omega (arith, less));
  fault = λ allowed. lacks (IsAllowed-last mode s (take n items) (get_or items n d) set system is.set_here.set_after (rw (take_more items n d below) at allowed));
})

-- what the set after the trace doesn't show isn't shown after it
pub unshown : (s : System) (trace : List Item) (set : List ℕ) (x : Item) → IsSetAfter s trace set → (Shows s set x → ⊥) → ShowsAfter s trace x → ⊥
unshown s trace set x after lacks shown = lacks (Shows-from_after s trace set x after shown)

-- with a trace each prefix is allowed
pub allowed_prefix : (mode : Mode) (s : System) (σ τ : List Item) → IsAllowed mode s (σ ++ τ) → IsAllowed mode s σ
allowed_prefix mode s σ [] allowed = rw append-nil at allowed
allowed_prefix mode s σ (x ∷ τ) allowed = IsAllowed-front mode s σ x (allowed_prefix mode s (σ ++ x ∷ []) τ (rw (append_assoc σ (x ∷ []) τ) allowed))

-- of an allowed trace each part from its beginning is allowed
pub allowed_to : (mode : Mode) (s : System) (trace : List Item) (k : ℕ) → IsAllowed mode s trace → IsAllowed mode s (take k trace)
allowed_to mode s trace k allowed = allowed_prefix mode s (take k trace) (drop k trace) (rw (take-append-drop k trace) allowed)

-- where the trace and the item are a violation, no other answer is right
pub only_accepted : (mode : Mode) (i s : System) (trace : List Item) (x : Item) (c : Checked) → IsCheckedTrace mode i s trace x c → IsViolation mode i s trace x → c ≡ Accepted
only_accepted mode i s trace x Accepted is violation = refl
only_accepted mode i s trace x (NotAllowed number) is violation =
    absurd (is.fault (allowed_to mode s trace number violation.allowed))
only_accepted mode i s trace x NotShown is violation = absurd (is.1 violation.shown)
only_accepted mode i s trace x Allowed is violation = absurd (violation.unshown is.2)
only_accepted mode i s trace x Start is violation = absurd is
only_accepted mode i s trace x (Outputs number) is violation = absurd is
only_accepted mode i s trace x (NotClosed number y) is violation = absurd is
