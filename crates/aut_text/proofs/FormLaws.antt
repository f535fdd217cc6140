-- Laws on the forms of a header and of a move: where a cut is made, the parts of the form are the parts of the cut.
use Rattle.std.proofs.Common.{◌≡◌, ◌∙◌, ℕ, suc, ◌+◌, ◌-◌, ◌≤◌, Bool, true, false, ◌==◌, nat_lt, if◌then◌else◌, List, [], ◌∷◌, ◌++◌, length, take, drop, get_or, Option, Some, None, MatchOption, inl, inr, refl, sym, ap, arith, subst, codes}
use Rattle.std.proofs.lemmas.Bool.{cases_lt, false≢true}
use Rattle.std.proofs.lemmas.Bool.Decides.{Decides-ltb, Decides-eqb}
use Rattle.std.proofs.lemmas.List.{take_at, length_push, append_cancel_right, append_cancel_left, get_or_push}
use Rattle.std.specs.Str.{IsUtf8}
use Rattle.lts_base.proofs.ListLaws.{snoc_cases}
use Rattle.text_scan.specs.Decimal.{IsDecimal}
use Rattle.text_scan.specs.Blank.{trimmed}
use Rattle.text_scan.specs.Cut.{IsCut, IsLastCut}
use Rattle.text_scan.proofs.BlankLaws.{IsUtf8-trimmed}
use Rattle.text_scan.proofs.CutLaws.{cut_same, last_cut_same, IsUtf8-before, IsUtf8-after}
use Rattle.aut_text.specs.declared.header.Header.{Header}
use Rattle.aut_text.specs.Form.{IsOpening, IsClosing, IsBeginning, IsHeader, Written, IsMove, HasLabel, is_quoted, unquoted, label_in}

-- the number before a bracket at the end
pub closing_is : (bytes digits : List ℕ) (r : Option ℕ) → trimmed bytes ≡ digits ++ 41 ∷ [] → MatchOption r ((n : ℕ) → IsDecimal (trimmed digits) n → ⊥) (IsDecimal (trimmed digits)) → MatchOption r ((n : ℕ) → IsClosing bytes n → ⊥) (IsClosing bytes)
closing_is bytes digits None is none =
    λ n closing.
    let same : closing.digits ≡ digits = append_cancel_right closing.digits digits (41 ∷ []) (sym (closing.bracket) ∙ is) in
    none n (rw same at (closing.number))
closing_is bytes digits (Some n) is number = record { digits = digits; bracket = is; number = number }

-- the number after `des` and a bracket
pub beginning_is : (bytes opening : List ℕ) (r : Option ℕ) → trimmed bytes ≡ codes "des" ++ opening → MatchOption r ((n : ℕ) → IsOpening opening n → ⊥) (IsOpening opening) → MatchOption r ((n : ℕ) → IsBeginning bytes n → ⊥) (IsBeginning bytes)
beginning_is bytes opening None is none =
    λ n beginning.
    let same : beginning.opening ≡ opening = append_cancel_left (codes "des") beginning.opening opening (sym (beginning.word) ∙ is) in
    none n (rw same at (beginning.number))
beginning_is bytes opening (Some n) is number = record { opening = opening; word = is; number = number }

-- the parts of a header at the cuts of its text
pub header_front : (text front others : List ℕ) (h : Header) → IsCut 44 text front others → IsHeader text h → IsBeginning front h.start
header_front text front others h cut header = rw (cut_same 44 text header.front header.others front others header.first_comma cut).0 at (header.start)

pub header_others : (text front others : List ℕ) (h : Header) → IsCut 44 text front others → (header : IsHeader text h) → IsCut 44 others header.middle header.back
header_others text front others h cut header = rw (cut_same 44 text header.front header.others front others header.first_comma cut).1 at (header.second_comma)

pub header_middle : (text front others middle back : List ℕ) (h : Header) → IsCut 44 text front others → IsCut 44 others middle back → IsHeader text h → IsDecimal (trimmed middle) h.transitions
header_middle text front others middle back h cut second header =
    let same = cut_same 44 others header.middle header.back middle back (header_others text front others h cut header) second in
    rw (same.0) at (header.transitions)

pub header_back : (text front others middle back : List ℕ) (h : Header) → IsCut 44 text front others → IsCut 44 others middle back → IsHeader text h → IsClosing back h.states
header_back text front others middle back h cut second header =
    let same = cut_same 44 others header.middle header.back middle back (header_others text front others h cut header) second in
    rw (same.1) at (header.states)

-- the parts of a move at the cuts of its text
pub move_front : (text front others : List ℕ) (w : Written) → IsCut 44 text front others → IsMove text w → IsOpening front w.from
move_front text front others w cut move = rw (cut_same 44 text move.front move.others front others move.first_comma cut).0 at (move.from)

pub move_others : (text front others : List ℕ) (w : Written) → IsCut 44 text front others → (move : IsMove text w) → IsLastCut 44 others move.middle move.back
move_others text front others w cut move = rw (cut_same 44 text move.front move.others front others move.first_comma cut).1 at (move.last_comma)

pub move_label : (text front others middle back : List ℕ) (w : Written) → IsCut 44 text front others → IsLastCut 44 others middle back → IsMove text w → HasLabel (label_in middle)
move_label text front others middle back w cut last move =
    let same = last_cut_same 44 others move.middle move.back middle back (move_others text front others w cut move) last in
    subst HasLabel (move.label ∙ ap label_in (same.0)) (move.has)

pub move_back : (text front others middle back : List ℕ) (w : Written) → IsCut 44 text front others → IsLastCut 44 others middle back → IsMove text w → IsClosing back w.to
move_back text front others middle back w cut last move =
    let same = last_cut_same 44 others move.middle move.back middle back (move_others text front others w cut move) last in
    rw (same.1) at (move.to)

-- a chain of tests that comes out true
pub all_true : (a b c : Bool) → (if a then false else if b then c else false) ≡ true → (a ≡ false) × (b ≡ true) × (c ≡ true)
all_true true b c e = absurd (false≢true e)
all_true false true c e = (refl, refl, e)
all_true false false c e = absurd (false≢true e)

-- a quoted text is a quote, what stands between, and a quote
pub quoted_is : (text : List ℕ) → is_quoted text ≡ true → (inner : List ℕ) × (text ≡ 34 ∷ (inner ++ 34 ∷ []))
quoted_is text is = go text (all_true (nat_lt (length text) 2) (get_or text 0 0 == 34) (get_or text (length text - 1) 0 == 34) is)
  where
    long : (t : List ℕ) → nat_lt (length t) 2 ≡ false → 2 ≤ length t
    long t e = elim (cases_lt (length t) 2) [
      | inl less ↦ absurd (false≢true (sym e ∙ (Decides-ltb (length t) 2).1 less))
      | inr more ↦ more
    ]

    go : (t : List ℕ) → (nat_lt (length t) 2 ≡ false) × ((get_or t 0 0 == 34) ≡ true) × ((get_or t (length t - 1) 0 == 34) ≡ true) → (inner : List ℕ) × (t ≡ 34 ∷ (inner ++ 34 ∷ []))
    go [] (some, first, last) = let size = long [] some in absurd (omega (arith, size))
    go (x ∷ xs) (some, first, last) = elim (snoc_cases xs) [
      | inl none ↦ let size : 2 ≤ length (x ∷ xs) = long (x ∷ xs) some in absurd (omega (arith, size, ap {A = List ℕ} {B = ℕ} length none))
      | inr (inner, y, whole) ↦
          let x_is : x ≡ 34 = (Decides-eqb x 34).0 first in
          let size : length xs ≡ length inner + 1 = ap {A = List ℕ} {B = ℕ} length whole ∙ length_push inner y in
          let at : get_or (x ∷ xs) (length (x ∷ xs) - 1) 0 ≡ y = ap {A = List ℕ} {B = ℕ} (λ t. get_or (x ∷ t) (length (x ∷ xs) - 1) 0) whole ∙ get_or_push (x ∷ inner) y 0 (length (x ∷ xs) - 1) (omega (arith, size)) in
          let y_is : y ≡ 34 = sym at ∙ (Decides-eqb (get_or (x ∷ xs) (length (x ∷ xs) - 1) 0) 34).0 last in
          (inner, rw (x_is, whole, y_is) refl)
    ]

-- UTF-8 without the quotes around it is UTF-8
pub IsUtf8-unquoted : (text : List ℕ) → IsUtf8 text → IsUtf8 (unquoted text)
IsUtf8-unquoted text utf8 = go (is_quoted text) refl
  where
    go : (b : Bool) → is_quoted text ≡ b → IsUtf8 (unquoted text)
    go false is = rw is utf8
    go true is =
        let (inner, whole) = quoted_is text is in
        let size : length text ≡ length inner + 2 = ap {A = List ℕ} {B = ℕ} length whole ∙ ap {A = ℕ} {B = ℕ} suc (length_push inner 34) ∙ omega arith in
        let between : take (length text - 2) (drop 1 text) ≡ inner = ap {A = List ℕ} {B = List ℕ} (λ t. take (length text - 2) (drop 1 t)) whole ∙ take_at inner (34 ∷ []) (length text - 2) (omega (arith, size)) in
        rw (is, between) (IsUtf8-before inner [] 34 (omega arith) (IsUtf8-after [] (inner ++ 34 ∷ []) 34 (omega arith) (rw whole at utf8)))

-- the label of a move in UTF-8 is UTF-8
pub IsUtf8-label : (text : List ℕ) (w : Written) → IsUtf8 text → IsMove text w → IsUtf8 w.label
IsUtf8-label text w utf8 move =
    let others : IsUtf8 move.others = IsUtf8-after move.front move.others 44 (omega arith) (rw (move.first_comma.whole) at utf8) in
    let middle : IsUtf8 move.middle = IsUtf8-before move.middle move.back 44 (omega arith) (rw (move.last_comma.whole) at others) in
    rw (move.label) (IsUtf8-unquoted (trimmed move.middle) (IsUtf8-trimmed move.middle middle))
