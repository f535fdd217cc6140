-- Laws on references.
use Rattle.std.proofs.Common.{◌≡◌, ◌∙◌, ℕ, ◌+◌, ◌*◌, ◌<◌, ◌≤◌, ◌==◌, true, false, eqb, ◌||◌, length, List, [], ◌∷◌, ◌++◌, append_assoc, Option, Some, None, refl, sym, ap, arith, inl, inr}
use Rattle.std.proofs.Math.Nat.{mul-le-mul_left}
use Rattle.std.proofs.lemmas.Bool.{cases_Bool, le-ltb, false≢true, eqb-true}
use Rattle.text_scan.proofs.CutLaws.{differs}
use Rattle.std.specs.Char.{is_digit, digit_value}
use Rattle.std.specs.Prelude.{option_map}
use Rattle.std.specs.List.{concat, list_any}
use Rattle.graphml_scan.specs.Pushed.{Pushes}
use Rattle.std.proofs.lemmas.List.{append-nil}
use Rattle.graphml_scan.specs.Many.{Cut, many}
use Rattle.graphml_scan.specs.Reference.{as_character, if_character, number_from, piece_at, joined, resolved}
use Rattle.graphml_scan.proofs.ManyLaws.{many-none, many-some}
use Rattle.graphml_scan.proofs.LengthLaws.{piece_shrinks}

-- a number that is too large is none of a character
too_large : (n : ℕ) → 0x110000 ≤ n → as_character n ≡ None
too_large n large =
    let some : (n == 0) ≡ false = differs n 0 (λ e. omega (arith, e, large)) in
    rw (some, le-ltb n 0xD800 (omega (arith, large)), le-ltb n 0xE000 (omega (arith, large)), le-ltb n 0x110000 large) refl

-- and digits don't make it smaller
pub large_stays : (base n : ℕ) (digits : List ℕ) → 0 < base → 0x110000 ≤ n → if_character (number_from base n digits) ≡ None
large_stays base n [] some large = too_large n large
large_stays base n (d ∷ digits) some large = elim (cases_Bool (is_digit d base)) [
  | inl digit ↦
      let one : 1 ≤ base = omega (arith, some) in
      rw digit (large_stays base (n * base + digit_value d) digits some (omega (arith, mul-le-mul_left n one, large)))
  | inr other ↦ rw other refl
]

-- ---- a text piece by piece

-- what was resolved before, and what follows
abbrev pub with_text : List ℕ → Cut (List (List ℕ)) → Option (List ℕ)
with_text front found = option_map (λ text. front ++ text) (joined found)

pub with_text-piece : (front bytes piece rest : List ℕ) → piece_at bytes ≡ Some (piece, rest) → with_text front (many piece_at bytes) ≡ with_text (front ++ piece) (many piece_at rest)
with_text-piece front bytes piece rest e = rw (many-some piece_at bytes (piece, rest) piece_shrinks e) (go (many piece_at rest).0 (many piece_at rest).1)
  where
    go : (pieces : List (List ℕ)) (left : List ℕ) → with_text front (piece ∷ pieces, left) ≡ with_text (front ++ piece) (pieces, left)
    go pieces [] = ap {A = List ℕ} {B = Option (List ℕ)} (λ t. Some t) (sym (append_assoc front piece (concat pieces)))
    go pieces (b ∷ left) = refl

pub with_text-none : (front : List ℕ) (b : ℕ) (bytes : List ℕ) → piece_at (b ∷ bytes) ≡ None → with_text front (many piece_at (b ∷ bytes)) ≡ None
with_text-none front b bytes e = rw (many-none piece_at (b ∷ bytes) e) refl

pub with_text-end : (front : List ℕ) → with_text front (many piece_at []) ≡ Some front
with_text-end front = rw (many-none piece_at [] refl) (ap {A = List ℕ} {B = Option (List ℕ)} (λ t. Some t) (append-nil front))

pub with_text-start : (bytes : List ℕ) → with_text [] (many piece_at bytes) ≡ resolved bytes
unfolding resolved
with_text-start bytes = go (joined (many piece_at bytes))
  where
    go : (o : Option (List ℕ)) → option_map (λ text. [] ++ text) o ≡ o
    go None = refl
    go (Some t) = refl

-- a text without references stands for itself
plain_from : (front bytes : List ℕ) → list_any (λ b. b == 38) bytes ≡ false → with_text front (many piece_at bytes) ≡ Some (front ++ bytes)
plain_from front [] plain = with_text-end front ∙ ap {A = List ℕ} {B = Option (List ℕ)} (λ t. Some t) (sym (append-nil front))
plain_from front (b ∷ bytes) plain = elim (cases_Bool (b == 38)) [
  | inl is ↦ absurd (false≢true (sym plain ∙ ap (λ c. c || list_any (λ x. x == 38) bytes) is))
  | inr other ↦
      let one : piece_at (b ∷ bytes) ≡ Some (b ∷ [], bytes) = rw other refl in
      let rest : list_any (λ x. x == 38) bytes ≡ false = sym (ap (λ c. c || list_any (λ x. x == 38) bytes) other) ∙ plain in
      with_text-piece front (b ∷ bytes) (b ∷ []) bytes one ∙ plain_from (front ++ b ∷ []) bytes rest ∙ ap {A = List ℕ} {B = Option (List ℕ)} (λ t. Some t) (append_assoc front (b ∷ []) bytes)
]

pub plain_text : (bytes : List ℕ) → list_any (λ b. b == 38) bytes ≡ false → resolved bytes ≡ Some bytes
plain_text bytes plain = sym (with_text-start bytes) ∙ plain_from [] bytes plain

-- one piece more
pub pushed : (old new bytes rest total : List ℕ) → Pushes old new bytes (Some rest) → with_text old (many piece_at bytes) ≡ resolved total → with_text new (many piece_at rest) ≡ resolved total
pushed old new bytes rest total (piece, is, added) before = rw added (sym (with_text-piece old bytes piece rest is) ∙ before)

pub push_shrinks : (old new bytes rest : List ℕ) → Pushes old new bytes (Some rest) → length rest < length bytes
push_shrinks old new bytes rest (piece, is, added) = piece_shrinks bytes (piece, rest) is

pub push_none : (front bytes total : List ℕ) → eqb (length bytes) 0 ≡ false → piece_at bytes ≡ None → with_text front (many piece_at bytes) ≡ resolved total → None ≡ resolved total
push_none front [] total some none before = cc
push_none front (b ∷ bytes) total some none before = sym (with_text-none front b bytes none) ∙ before

pub pushed_all : (front bytes total : List ℕ) → eqb (length bytes) 0 ≡ true → with_text front (many piece_at bytes) ≡ resolved total → Some front ≡ resolved total
pushed_all front [] total empty before = sym (with_text-end front) ∙ before
pushed_all front (b ∷ bytes) total empty before = absurd (omega (arith, eqb-true (length (b ∷ bytes)) 0 empty))
