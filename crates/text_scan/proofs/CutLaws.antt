-- Laws on texts that are cut at a byte.
use Rattle.std.proofs.Common.{◌≡◌, ◌∙◌, ℕ, ◌+◌, ◌<◌, false, ◌==◌, List, [], ◌∷◌, ◌++◌, length, take, drop, get_or, inl, inr, refl, sym, ap, arith}
use Rattle.std.proofs.Math.Seq.{get_or-append_seam}
use Rattle.std.proofs.lemmas.List.{take_at, drop_at, length-append, append_assoc, length_push}
use Rattle.std.proofs.lemmas.Bool.{cases_Bool}
use Rattle.std.proofs.lemmas.Bool.Decides.{Decides-eqb}
use Rattle.std.proofs.lemmas.Str.{IsUtf8-take, IsUtf8-drop, IsCharBoundary-before_ascii, IsCharBoundary-after_ascii}
use Rattle.std.specs.Str.{IsUtf8}
use Rattle.text_scan.specs.Cut.{Lacks, IsCut, IsLastCut}

pub differs : (b c : ℕ) → (b ≡ c → ⊥) → (b == c) ≡ false
differs b c other = elim (cases_Bool (b == c)) [
  | inl same ↦ absurd (other ((Decides-eqb b c).0 same))
  | inr not ↦ not
]

-- a text has one cut at its first mark
pub cut_once : (mark : ℕ) (a b x y : List ℕ) → Lacks mark a → Lacks mark x → a ++ mark ∷ b ≡ x ++ mark ∷ y → (a ≡ x) × (b ≡ y)
cut_once mark [] b [] y lacks_a lacks_x e = (refl, cc)
cut_once mark [] b (z ∷ x) y lacks_a lacks_x e = let same : z ≡ mark = cc in absurd (lacks_x.0 same)
cut_once mark (z ∷ a) b [] y lacks_a lacks_x e = let same : z ≡ mark = cc in absurd (lacks_a.0 same)
cut_once mark (z ∷ a) b (w ∷ x) y lacks_a lacks_x e =
    let first : z ≡ w = cc in
    let rest : a ++ mark ∷ b ≡ x ++ mark ∷ y = cc in
    let (same, back) = cut_once mark a b x y lacks_a.1 lacks_x.1 rest in
    (cc, back)

-- what holds a mark doesn't lack it
pub holds_mark : (mark : ℕ) (a b : List ℕ) → Lacks mark (a ++ mark ∷ b) → ⊥
holds_mark mark [] b lacks = lacks.0 refl
holds_mark mark (z ∷ a) b lacks = holds_mark mark a b lacks.1

-- a text has one cut at its last mark
pub last_cut_once : (mark : ℕ) (a b x y : List ℕ) → Lacks mark b → Lacks mark y → a ++ mark ∷ b ≡ x ++ mark ∷ y → (a ≡ x) × (b ≡ y)
last_cut_once mark [] b [] y lacks_b lacks_y e = (refl, cc)
last_cut_once mark [] b (z ∷ x) y lacks_b lacks_y e =
    let rest : b ≡ x ++ mark ∷ y = cc in
    absurd (holds_mark mark x y (rw rest at lacks_b))
last_cut_once mark (z ∷ a) b [] y lacks_b lacks_y e =
    let rest : y ≡ a ++ mark ∷ b = cc in
    absurd (holds_mark mark a b (rw rest at lacks_y))
last_cut_once mark (z ∷ a) b (w ∷ x) y lacks_b lacks_y e =
    let first : z ≡ w = cc in
    let rest : a ++ mark ∷ b ≡ x ++ mark ∷ y = cc in
    let (same, back) = last_cut_once mark a b x y lacks_b lacks_y rest in
    (cc, back)

pub cut_same : (mark : ℕ) (bytes a b x y : List ℕ) → IsCut mark bytes a b → IsCut mark bytes x y → (a ≡ x) × (b ≡ y)
cut_same mark bytes a b x y one other = cut_once mark a b x y one.first other.first (sym one.whole ∙ other.whole)

pub last_cut_same : (mark : ℕ) (bytes a b x y : List ℕ) → IsLastCut mark bytes a b → IsLastCut mark bytes x y → (a ≡ x) × (b ≡ y)
last_cut_same mark bytes a b x y one other = last_cut_once mark a b x y one.last other.last (sym one.whole ∙ other.whole)

-- a text that lacks the mark has no cut at it
pub no_cut : (mark : ℕ) (bytes a b : List ℕ) → Lacks mark bytes → IsCut mark bytes a b → ⊥
no_cut mark bytes a b lacks cut = holds_mark mark a b (rw (cut.whole) at lacks)

pub no_last_cut : (mark : ℕ) (bytes a b : List ℕ) → Lacks mark bytes → IsLastCut mark bytes a b → ⊥
no_last_cut mark bytes a b lacks cut = holds_mark mark a b (rw (cut.whole) at lacks)

-- UTF-8 may be cut at a byte below 128: what stands before it, and what stands after it, is UTF-8
pub IsUtf8-before : (a b : List ℕ) (c : ℕ) → c < 128 → IsUtf8 (a ++ c ∷ b) → IsUtf8 a
IsUtf8-before a b c low utf8 =
    let inside : length a < length (a ++ c ∷ b) = rw length-append (omega arith) in
    let at : get_or (a ++ c ∷ b) (length a) 0 ≡ c = get_or-append_seam a c b 0 in
    let front : IsUtf8 (take (length a) (a ++ c ∷ b)) = IsUtf8-take (a ++ c ∷ b) (length a) utf8 (IsCharBoundary-before_ascii (a ++ c ∷ b) (length a) inside (rw at low)) in
    rw (take_at a (c ∷ b) (length a) refl) at front

pub IsUtf8-after : (a b : List ℕ) (c : ℕ) → c < 128 → IsUtf8 (a ++ c ∷ b) → IsUtf8 b
IsUtf8-after a b c low utf8 =
    let inside : length a < length (a ++ c ∷ b) = rw length-append (omega arith) in
    let at : get_or (a ++ c ∷ b) (length a) 0 ≡ c = get_or-append_seam a c b 0 in
    let back : IsUtf8 (drop (length a + 1) (a ++ c ∷ b)) = IsUtf8-drop (a ++ c ∷ b) (length a + 1) utf8 (IsCharBoundary-after_ascii (a ++ c ∷ b) (length a) utf8 inside (rw at low)) in
    let joined : drop (length a + 1) (a ++ c ∷ b) ≡ b = ap (drop (length a + 1)) (sym (append_assoc a (c ∷ []) b)) ∙ drop_at (a ++ c ∷ []) b (length a + 1) (length_push a c) in
    rw joined at back
