-- What bytes begin with.
use Rattle.std.proofs.Common.{arith, ◌≡◌, ◌∙◌, ℕ, zero, suc, ◌+◌, ◌-◌, ◌<◌, ◌≤◌, List, [], ◌∷◌, ◌++◌, length, take, drop, Contains, get_or, inl, inr, ap, refl, sym, append_assoc}
use Rattle.std.proofs.lemmas.List.{take_all, take-append-drop, take-append-le, length-take-le, length-append, drop-drop}
use Rattle.std.proofs.lemmas.Bool.{cases_lt}
use Rattle.std.proofs.Math.Seq.{drop-append-add}
use Rattle.text_scan.specs.Cut.{IsCut, Lacks}
use Rattle.line_link.specs.declared.line_buffer.Found.{Found}
use Rattle.line_link.specs.AtHand.{IsFound}
use Rattle.line_link.specs.Hearing.{IsFirstLine, IsTooLong, IsRest, without_cr}

-- what lacks a byte doesn't contain it
pub lacks_none : (byte : ℕ) (bytes : List ℕ) → Lacks byte bytes → Contains bytes byte → ⊥
lacks_none byte bytes lacks (k, below, is) = go bytes k lacks below is
  where
    go : (bs : List ℕ) (k : ℕ) → Lacks byte bs → k < length bs → get_or bs k byte ≡ byte → ⊥
    go [] k lacks below is = absurd (omega (arith, below))
    go (b ∷ bs) zero lacks below is = lacks.0 is
    go (b ∷ bs) (suc k) lacks below is = go bs k lacks.1 (omega (arith, below)) is

-- how long the first bytes are, which tell whether a line is too long
pub front_long : (bytes front : List ℕ) → front ≡ take 1025 bytes → (length front ≤ length bytes) × (length front ≤ 1025) × (length front < 1025 → front ≡ bytes) × (take (length front) bytes ≡ front)
front_long bytes front e = elim (cases_lt 1024 (length bytes)) [
  | inl over ↦
      let long : length front ≡ 1025 = rw e (length-take-le 1025 bytes over) in
      (omega (arith, long, over), omega (arith, long), λ short. absurd (omega (arith, short, long)), rw long (sym e))
  | inr short ↦
      let whole : front ≡ bytes = e ∙ take_all 1025 bytes (omega (arith, short)) in
      (rw whole (omega arith), rw whole (omega (arith, short)), λ s. whole, rw whole (take_all (length bytes) bytes (omega arith)))
]

-- the line at which the first bytes are cut is the first one of all
pub line_found : (bytes front line back : List ℕ) (said : ℕ) → front ≡ take 1025 bytes → IsCut 10 front line back → said ≤ length line → take said line ≡ without_cr line → (length line + 1 ≤ length bytes) × IsFirstLine bytes (take said bytes) (drop (length line + 1) bytes)
line_found bytes front line back said e cut within text =
    let all = front_long bytes front e in
    let long : length front ≡ length line + suc (length back) = rw cut.whole (length-append line (10 ∷ back)) in
    let parts : take 1025 bytes ++ drop 1025 bytes ≡ bytes = take-append-drop 1025 bytes in
    let begun : take 1025 bytes ≡ line ++ 10 ∷ back = sym e ∙ cut.whole in
    let whole : bytes ≡ line ++ 10 ∷ (back ++ drop 1025 bytes) = sym parts ∙ ap (λ (z : List ℕ). z ++ drop 1025 bytes) begun ∙ append_assoc line (10 ∷ back) (drop 1025 bytes) in
    let rest : drop (length line + 1) bytes ≡ back ++ drop 1025 bytes = ap (drop (length line + 1)) whole ∙ drop-append-add line (10 ∷ (back ++ drop 1025 bytes)) 1 in
    let first : take said bytes ≡ take said line = ap (take said) whole ∙ take-append-le said line (10 ∷ (back ++ drop 1025 bytes)) within in
    (omega (arith, long, all.0), (line, record { whole = whole ∙ ap (λ (z : List ℕ). line ++ 10 ∷ z) (sym rest); within = (lacks_none 10 line cut.first, omega (arith, long, all.1)) }, first ∙ text))

-- the first bytes hold no LF, and are too many for a line
pub long_found : (bytes front : List ℕ) → front ≡ take 1025 bytes → Lacks 10 front → 1024 < length front → IsTooLong bytes (take (length front) bytes)
long_found bytes front e lacks over =
    let all = front_long bytes front e in
    rw (all.3) ((lacks_none 10 front lacks, omega (arith, all.1)), omega (arith, over, all.1), e)

-- the first bytes hold no LF, and are less than a line
pub part_found : (bytes front : List ℕ) → front ≡ take 1025 bytes → Lacks 10 front → length front ≤ 1024 → IsRest bytes (take (length front) bytes)
part_found bytes front e lacks few =
    let all = front_long bytes front e in
    let whole : front ≡ bytes = all.2 (omega (arith, few)) in
    let none : Contains front 10 → ⊥ = lacks_none 10 front lacks in
    rw (all.3) ((rw whole at none, rw whole at few), whole)

-- only equal bytes and texts matter
pub found_along : (a b : List ℕ) (found : Found) (s t x y : List ℕ) → a ≡ b → s ≡ t → x ≡ y → IsFound b found t y → IsFound a found s x
found_along a b found s t x y e f g h = rw (e, f, g) h

-- what is said of a window is what is said from its begin on
pub window : (buffer : List ℕ) (from said : ℕ) → take (from + said - from) (drop from buffer) ≡ take said (drop from buffer)
window buffer from said =
    let size : from + said - from ≡ said = omega arith in
    rw size refl

-- what is left of a window is what is left from its begin on
pub after_window : (buffer : List ℕ) (from taken : ℕ) → drop (from + taken) buffer ≡ drop taken (drop from buffer)
after_window buffer from taken = rw drop-drop refl

-- nothing is at hand
pub none_left : (xs : List ℕ) → (length xs ≡ 0 → xs ≡ []) × (xs ≡ [] → length xs ≡ 0)
none_left [] = (λ h. refl, λ e. refl)
none_left (x ∷ xs) = (λ h. absurd (omega (arith, h)), λ e. cc)
