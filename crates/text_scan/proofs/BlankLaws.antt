-- Laws on blanks at the ends of a text.
use Rattle.std.proofs.Common.{◌≡◌, ◌∙◌, ℕ, ◌<◌, true, false, ◌==◌, List, [], ◌∷◌, ◌++◌, reverse, inl, inr, refl, sym, ap, arith}
use Rattle.std.proofs.lemmas.List.{reverse-append, reverse-reverse}
use Rattle.std.proofs.lemmas.Bool.{cases_Bool, cases_lt, false≢true}
use Rattle.std.specs.Str.{IsUtf8}
use Rattle.lts_base.proofs.ListLaws.{snoc_induction}
use Rattle.text_scan.specs.Blank.{is_blank, without_front, without_back, trimmed}
use Rattle.text_scan.proofs.CutLaws.{IsUtf8-before, IsUtf8-after, differs}

-- a blank at the back goes
pub back_blank : (bytes : List ℕ) (b : ℕ) → is_blank b ≡ true → without_back (bytes ++ b ∷ []) ≡ without_back bytes
back_blank bytes b blank = rw (reverse-append bytes (b ∷ []), blank) refl

-- any other byte at the back stays
pub back_other : (bytes : List ℕ) (b : ℕ) → is_blank b ≡ false → without_back (bytes ++ b ∷ []) ≡ bytes ++ b ∷ []
back_other bytes b other =
    let turned : reverse (bytes ++ b ∷ []) ≡ b ∷ reverse bytes = reverse-append bytes (b ∷ []) in
    let kept : without_front (b ∷ reverse bytes) ≡ b ∷ reverse bytes = rw other refl in
    ap (λ r. reverse (without_front r)) turned ∙ ap reverse (kept ∙ sym turned) ∙ reverse-reverse (bytes ++ b ∷ [])

-- a blank is below 128
pub blank_low : (b : ℕ) → is_blank b ≡ true → b < 128
blank_low b blank = elim (cases_lt b 128) [
  | inl low ↦ low
  | inr high ↦
      let not_space : (b == 32) ≡ false = differs b 32 (λ same. omega (arith, same, high)) in
      let not_tab : (b == 9) ≡ false = differs b 9 (λ same. omega (arith, same, high)) in
      absurd (false≢true (sym (rw (not_space, not_tab) refl) ∙ blank))
]

pub IsUtf8-without_front : (bytes : List ℕ) → IsUtf8 bytes → IsUtf8 (without_front bytes)
IsUtf8-without_front [] utf8 = utf8
IsUtf8-without_front (b ∷ bytes) utf8 = elim (cases_Bool (is_blank b)) [
  | inl blank ↦ rw blank (IsUtf8-without_front bytes (IsUtf8-after [] bytes b (blank_low b blank) utf8))
  | inr other ↦ rw other utf8
]

pub IsUtf8-without_back : (bytes : List ℕ) → IsUtf8 bytes → IsUtf8 (without_back bytes)
IsUtf8-without_back = snoc_induction (λ bytes. IsUtf8 bytes → IsUtf8 (without_back bytes)) (λ utf8. utf8) (λ bytes b before utf8. elim (cases_Bool (is_blank b)) [
  | inl blank ↦ rw (back_blank bytes b blank) (before (IsUtf8-before bytes [] b (blank_low b blank) utf8))
  | inr other ↦ rw (back_other bytes b other) utf8
])

-- UTF-8 stays UTF-8 without the blanks at its ends
pub IsUtf8-trimmed : (bytes : List ℕ) → IsUtf8 bytes → IsUtf8 (trimmed bytes)
IsUtf8-trimmed bytes utf8 = IsUtf8-without_back (without_front bytes) (IsUtf8-without_front bytes utf8)
