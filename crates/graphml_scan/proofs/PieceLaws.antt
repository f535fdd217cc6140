-- Laws on white, names, and texts that end at a mark.
use Rattle.std.proofs.Common.{◌≡◌, ℕ, zero, suc, ◌+◌, ◌<◌, ◌≤◌, false, List, [], ◌∷◌, ◌++◌, length, take, drop, Some, None, refl, ap, arith, zero-add}
use Rattle.std.proofs.lemmas.Bool.{eq-eqb, false_from_ne_true}
use Rattle.std.proofs.lemmas.Slice.Eq.{bytes_eq-Decides}
use Rattle.std.proofs.lemmas.List.{length-drop, length-take}
use Rattle.std.specs.Str.{bytes_eq}
use Rattle.text_scan.specs.Cut.{Lacks, IsCut}
use Rattle.text_scan.proofs.CutLaws.{differs}
use Rattle.memchr.specs.Find.{OccursAt, Nowhere, NoneBefore}
use Rattle.memchr.proofs.lemmas.MatchLemmas.{OccursAt-part, OccursAt-from_part}
use Rattle.graphml_scan.specs.Piece.{cut_at, cut_text}

cut_along : (mark : ℕ) (front back : List ℕ) → Lacks mark front → cut_at mark (front ++ mark ∷ back) ≡ Some (front, back)
cut_along mark [] back lacks = rw (eq-eqb mark mark refl) refl
cut_along mark (b ∷ front) back lacks = rw (differs b mark lacks.0, cut_along mark front back lacks.1) refl

pub cut_found : (mark : ℕ) (bytes front back : List ℕ) → IsCut mark bytes front back → cut_at mark bytes ≡ Some (front, back)
cut_found mark bytes front back cut = rw (cut.whole) (cut_along mark front back cut.first)

pub cut_none : (mark : ℕ) (bytes : List ℕ) → Lacks mark bytes → cut_at mark bytes ≡ None
cut_none mark [] lacks = refl
cut_none mark (b ∷ bytes) lacks = rw (differs b mark lacks.0, cut_none mark bytes lacks.1) refl

-- ---- a text of several bytes

part_length : (mark bytes : List ℕ) → take (length mark) bytes ≡ mark → length mark ≤ length bytes
part_length mark bytes e = omega (arith, length-take (length mark) bytes, ap (λ (t : List ℕ). length t) e)

text_along : (mark bytes : List ℕ) (k : ℕ) → 0 < length mark → take (length mark) (drop k bytes) ≡ mark → ((j : ℕ) → j < k → take (length mark) (drop j bytes) ≡ mark → ⊥) → cut_text mark bytes ≡ Some (take k bytes, drop (k + length mark) bytes)
text_along mark [] k some at before = absurd (omega (arith, part_length mark (drop k []) at, length-drop {A = ℕ} k [], some))
text_along mark (b ∷ bytes) zero some at before = rw ((bytes_eq-Decides (take (length mark) (b ∷ bytes)) mark).1 at, zero-add (length mark)) refl
text_along mark (b ∷ bytes) (suc k) some at before =
    let other : bytes_eq (take (length mark) (b ∷ bytes)) mark ≡ false = false_from_ne_true _ (λ e. before zero (omega arith) ((bytes_eq-Decides (take (length mark) (b ∷ bytes)) mark).0 e)) in
    let rest : cut_text mark bytes ≡ Some (take k bytes, drop (k + length mark) bytes) = text_along mark bytes k some at (λ j below. before (suc j) (omega (arith, below))) in
    let count : suc k + length mark ≡ suc (k + length mark) = omega arith in
    rw (other, rest, count) refl

pub text_found : (mark bytes : List ℕ) (k : ℕ) → 0 < length mark → NoneBefore (OccursAt bytes mark) 0 (length bytes + 1) k → OccursAt bytes mark k → cut_text mark bytes ≡ Some (take k bytes, drop (k + length mark) bytes)
text_found mark bytes k some none at = text_along mark bytes k some (OccursAt-part bytes mark k at) (λ j below here.
    none.before j (omega arith) below (OccursAt-from_part bytes mark j (omega (arith, part_length mark (drop j bytes) here, length-drop j bytes, some)) here))

text_absent : (mark bytes : List ℕ) → 0 < length mark → ((j : ℕ) → take (length mark) (drop j bytes) ≡ mark → ⊥) → cut_text mark bytes ≡ None
text_absent mark [] some none = refl
text_absent mark (b ∷ bytes) some none =
    let other : bytes_eq (take (length mark) (b ∷ bytes)) mark ≡ false = false_from_ne_true _ (λ e. none zero ((bytes_eq-Decides (take (length mark) (b ∷ bytes)) mark).0 e)) in
    rw (other, text_absent mark bytes some (λ j. none (suc j))) refl

pub text_none : (mark bytes : List ℕ) → 0 < length mark → Nowhere (OccursAt bytes mark) 0 (length bytes + 1) → cut_text mark bytes ≡ None
text_none mark bytes some none = text_absent mark bytes some (λ j here.
    let long = part_length mark (drop j bytes) here in
    none j (omega arith) (omega (arith, long, length-drop j bytes, some)) (OccursAt-from_part bytes mark j (omega (arith, long, length-drop j bytes, some)) here))
