-- Laws on the lines of a text.
use Rattle.std.proofs.Common.{◌≡◌, ℕ, suc, ◌≤◌, false, ◌==◌, List, [], ◌∷◌, ◌++◌, length, ◌⊎◌, inl, inr, refl, ap, arith}
use Rattle.std.proofs.lemmas.Bool.{cases_Bool, false≢true}
use Rattle.text_scan.specs.Cut.{Lacks, IsCut}
use Rattle.text_scan.specs.Lines.{lines_of, with_byte}
use Rattle.text_scan.proofs.CutLaws.{differs}

-- the lines of a line, an LF and more
pub lines_of-line : (line rest : List ℕ) → Lacks 10 line → lines_of (line ++ 10 ∷ rest) ≡ line ∷ lines_of rest
lines_of-line [] rest lacks = refl
lines_of-line (b ∷ line) rest lacks = rw (differs b 10 lacks.0, lines_of-line line rest lacks.1) refl

pub lines_of-cut : (bytes line rest : List ℕ) → IsCut 10 bytes line rest → lines_of bytes ≡ line ∷ lines_of rest
lines_of-cut bytes line rest cut = rw (cut.whole) (lines_of-line line rest cut.first)

-- a line that lacks its LF
pub lines_of-last : (bytes : List ℕ) → (bytes ≡ [] → ⊥) → Lacks 10 bytes → lines_of bytes ≡ bytes ∷ []
lines_of-last [] some lacks = absurd (some refl)
lines_of-last (b ∷ []) some lacks = rw (differs b 10 lacks.0) refl
lines_of-last (b ∷ c ∷ bytes) some lacks = rw (differs b 10 lacks.0, lines_of-last (c ∷ bytes) (λ e. cc) lacks.1) refl

-- there are no more lines than bytes
pub few_lines : (bytes : List ℕ) → length (lines_of bytes) ≤ length bytes
few_lines [] = omega arith
few_lines (b ∷ bytes) = elim (cases_Bool (b == 10)) [
  | inl end ↦ rw end (omega (arith, few_lines bytes))
  | inr other ↦ rw other (go (lines_of bytes) (few_lines bytes))
]
  where
    go : (lines : List (List ℕ)) → length lines ≤ length bytes → length (with_byte b lines) ≤ suc (length bytes)
    go [] few = omega arith
    go (line ∷ lines) few = omega (arith, few)

-- what has a length isn't empty
pub has_some : (bytes : List ℕ) → false ≡ (length bytes == 0) → bytes ≡ [] → ⊥
has_some [] some none = false≢true some
has_some (b ∷ bytes) some none = cc

-- two places in a list: the same, or one of them comes first
pub places : (g h : List (List ℕ)) (x y : List ℕ) (xs ys : List (List ℕ)) → g ++ x ∷ xs ≡ h ++ y ∷ ys → ((g ≡ h) × (x ≡ y)) ⊎ (((t : List (List ℕ)) × (h ≡ g ++ x ∷ t)) ⊎ ((t : List (List ℕ)) × (g ≡ h ++ y ∷ t)))
places [] [] x y xs ys e = inl (refl, cc)
places [] (z ∷ h) x y xs ys e = let same : z ≡ x = cc in inr (inl (h, ap {A = List ℕ} {B = List (List ℕ)} (λ t. t ∷ h) same))
places (z ∷ g) [] x y xs ys e = let same : z ≡ y = cc in inr (inr (g, ap {A = List ℕ} {B = List (List ℕ)} (λ t. t ∷ g) same))
places (z ∷ g) (w ∷ h) x y xs ys e =
    let first : z ≡ w = cc in
    let rest : g ++ x ∷ xs ≡ h ++ y ∷ ys = cc in
    elim (places g h x y xs ys rest) [
      | inl (same, at) ↦ inl (cc, at)
      | inr (inl (t, longer)) ↦ inr (inl (t, cc))
      | inr (inr (t, longer)) ↦ inr (inr (t, cc))
    ]
