-- Laws on fronts and backs of texts, in the words of `strip_prefix` and `strip_suffix`.
use Rattle.std.proofs.Common.{◌≡◌, ◌∙◌, ℕ, ◌+◌, ◌-◌, true, false, List, ◌++◌, length, take, drop, refl, sym, ap, arith}
use Rattle.std.proofs.lemmas.List.{take-append-drop, take_at, drop_at, length-append}
use Rattle.std.proofs.lemmas.Bool.{false≢true}
use Rattle.std.proofs.lemmas.Slice.Eq.{bytes_eq-Decides}
use Rattle.std.specs.Str.{bytes_eq}

pub has_front : (front bytes : List ℕ) → bytes_eq (take (length front) bytes) front ≡ true → bytes ≡ front ++ drop (length front) bytes
has_front front bytes same =
    let is : take (length front) bytes ≡ front = (bytes_eq-Decides (take (length front) bytes) front).0 same in
    sym (take-append-drop (length front) bytes) ∙ ap {A = List ℕ} {B = List ℕ} (λ t. t ++ drop (length front) bytes) is

pub lacks_front : (front bytes rest : List ℕ) → bytes_eq (take (length front) bytes) front ≡ false → bytes ≡ front ++ rest → ⊥
lacks_front front bytes rest other is =
    let same : take (length front) bytes ≡ front = ap {A = List ℕ} {B = List ℕ} (take (length front)) is ∙ take_at front rest (length front) refl in
    false≢true (sym other ∙ (bytes_eq-Decides (take (length front) bytes) front).1 same)

pub has_back : (back bytes : List ℕ) → bytes_eq (drop (length bytes - length back) bytes) back ≡ true → bytes ≡ take (length bytes - length back) bytes ++ back
has_back back bytes same =
    let is : drop (length bytes - length back) bytes ≡ back = (bytes_eq-Decides (drop (length bytes - length back) bytes) back).0 same in
    sym (take-append-drop (length bytes - length back) bytes) ∙ ap {A = List ℕ} {B = List ℕ} (λ t. take (length bytes - length back) bytes ++ t) is

pub lacks_back : (back bytes rest : List ℕ) → bytes_eq (drop (length bytes - length back) bytes) back ≡ false → bytes ≡ rest ++ back → ⊥
lacks_back back bytes rest other is =
    let count : length bytes ≡ length rest + length back = ap {A = List ℕ} {B = ℕ} length is ∙ length-append rest back in
    let left : length rest ≡ length bytes - length back = omega (arith, count) in
    let same : drop (length bytes - length back) bytes ≡ back = ap {A = List ℕ} {B = List ℕ} (drop (length bytes - length back)) is ∙ drop_at rest back (length bytes - length back) left in
    false≢true (sym other ∙ (bytes_eq-Decides (drop (length bytes - length back) bytes) back).1 same)
