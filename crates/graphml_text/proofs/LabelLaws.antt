-- The label of an edge.
use Rattle.std.proofs.Common.{◌≡◌, ◌==◌, ◌<◌, ◌≤◌, ℕ, zero, suc, false, nat_lt, List, [], ◌∷◌, map, refl, sym, ap₂, inl, inr, arith}
use Rattle.std.specs.List.{list_any}
use Rattle.std.proofs.lemmas.Bool.{cases_Bool, eqb-true}
use Rattle.std.proofs.lemmas.Bool.Decides.{Decides-ltb}
use Rattle.text_scan.specs.Listing.{IsPlain}
use Rattle.text_scan.proofs.CutLaws.{differs}
use Rattle.graphml_text.specs.Element.{spaced}

-- a byte that isn't below a space stays
spaced_high : (b : ℕ) → 32 ≤ b → spaced b ≡ b
spaced_high b high = elim (cases_Bool (b == 32)) [
  | inl space ↦ rw space (sym (eqb-true b 32 space))
  | inr other ↦
      let no_tab : (b == 9) ≡ false = differs b 9 (λ same. omega (arith, same, high)) in
      let no_return : (b == 13) ≡ false = differs b 13 (λ same. omega (arith, same, high)) in
      let no_break : (b == 10) ≡ false = differs b 10 (λ same. omega (arith, same, high)) in
      rw (other, no_tab, no_return, no_break) refl
]

-- a text without bytes below a space is the same with spaces for white
pub plain_same : (text : List ℕ) → IsPlain text → map spaced text ≡ text
plain_same [] plain = refl
plain_same (b ∷ text) plain = ap₂ {A = ℕ} {B = List ℕ} {C = List ℕ} (λ x xs. x ∷ xs) (spaced_high b (plain zero 0 (omega arith))) (plain_same text (λ k d below. plain (suc k) d (omega (arith, below))))

-- and has no control character
pub plain_control : (text : List ℕ) → IsPlain text → list_any (λ b. nat_lt b 32) (map spaced text) ≡ false
plain_control text plain = rw (plain_same text plain) (none text plain)
  where
    none : (text : List ℕ) → IsPlain text → list_any (λ b. nat_lt b 32) text ≡ false
    none [] plain = refl
    none (b ∷ text) plain = elim (cases_Bool (nat_lt b 32)) [
      | inl low ↦ let is : b < 32 = (Decides-ltb b 32).0 low in let high : 32 ≤ b = plain zero 0 (omega arith) in absurd (omega (arith, is, high))
      | inr high ↦ rw high (none text (λ k d below. plain (suc k) d (omega (arith, below))))
    ]
