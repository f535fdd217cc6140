-- Laws on sets of numbers.
use Rattle.std.proofs.Common.{◌≡◌, ◌↔◌, ℕ, Contains, Bool, true, false, cond, not, ◌⊎◌, inl, inr, refl, sym, ap, ◌∙◌}
use Rattle.std.specs.Prelude.{IsTrue}
use Rattle.std.specs.Ordering.{nat_cmp, is_eq}
use Rattle.std.specs.declared.cmp.Ordering.{Ordering}
use Rattle.std.specs.declared.cmp.Ordering.TheVariants.{Less, Equal, Greater}
use Rattle.std.specs.BTreeMap.{is_at}
use Rattle.std.specs.BTreeSet.{BTreeSet, contains, Updates}
use Rattle.std.proofs.lemmas.Bool.{cases_Bool, false≢true}
use Rattle.std.proofs.lemmas.Cmp.{nat_cmp_total}
use Rattle.std.proofs.lemmas.Map.Lookups.{exact_unsigned}
use Rattle.std.proofs.lemmas.Map.Views.{btree_set_contains_iff}
use Rattle.cert_check.specs.Numbers.{Enters}

is_eq-true : (o : Ordering) → is_eq o ≡ true → o ≡ Equal
is_eq-true Less e = cc
is_eq-true Equal e = refl
is_eq-true Greater e = cc

-- what the set answers
pub has_iff : (s : BTreeSet ℕ) (n : ℕ) (b : Bool) → b ≡ contains nat_cmp s n → IsTrue b ↔ Contains s.keys n
has_iff s n b is = (
  λ t. (btree_set_contains_iff nat_cmp_total exact_unsigned s n).0 (sym is ∙ t),
  λ h. is ∙ (btree_set_contains_iff nat_cmp_total exact_unsigned s n).1 h,
)

-- what it answers where a number is inserted
pub fresh_iff : (s : BTreeSet ℕ) (n : ℕ) (b : Bool) → b ≡ not (contains nat_cmp s n) → IsTrue b ↔ (Contains s.keys n → ⊥)
fresh_iff s n b is = (
  λ t h. false≢true (ap not (sym ((btree_set_contains_iff nat_cmp_total exact_unsigned s n).1 h)) ∙ sym is ∙ t),
  λ none. elim (cases_Bool (contains nat_cmp s n)) [
    | inl there ↦ absurd (none ((btree_set_contains_iff nat_cmp_total exact_unsigned s n).0 there))
    | inr away ↦ is ∙ ap not away
  ],
)

both : (b : Bool) → cond b true true ≡ true
both true = refl
both false = refl

-- what the set has then
pub enters : (s t : BTreeSet ℕ) (n : ℕ) → Updates nat_cmp s t n true → Enters s.keys n t.keys
enters s t n (at, here, others, kept) q = (
  λ has. elim (cases_Bool (is_at (nat_cmp n) q)) [
    | inl same ↦ inr (sym (exact_unsigned n q (is_eq-true (nat_cmp n q) same)))
    | inr other ↦
        let now : contains nat_cmp t q ≡ true = (btree_set_contains_iff nat_cmp_total exact_unsigned t q).1 has in
        inl ((btree_set_contains_iff nat_cmp_total exact_unsigned s q).0 (sym (others q other) ∙ now))
  ],
  λ h. into h,
)
  where
    into : Contains s.keys q ⊎ (q ≡ n) → Contains t.keys q
    into (inl has) =
        let before : contains nat_cmp s q ≡ true = (btree_set_contains_iff nat_cmp_total exact_unsigned s q).1 has in
        (btree_set_contains_iff nat_cmp_total exact_unsigned t q).0 (at q ∙ rw before (both (is_at (nat_cmp n) q)))
    into (inr same) = rw same ((btree_set_contains_iff nat_cmp_total exact_unsigned t n).0 here)
