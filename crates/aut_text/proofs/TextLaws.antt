-- Laws on lines of blanks alone, and on what is kept of an unfinished line.
use Rattle.std.proofs.Common.{◌≡◌, ◌∙◌, ℕ, suc, ◌+◌, ◌-◌, ◌<◌, ◌≤◌, Bool, true, false, ◌||◌, if◌then◌else◌, List, [], ◌∷◌, ◌++◌, length, take, drop, inl, inr, refl, sym, ap, arith, ◌⊎◌}
use Rattle.std.specs.Str.{bytes_eq}
use Rattle.std.proofs.Math.Seq.{drop-append_seam}
use Rattle.std.proofs.lemmas.Bool.{cases_Bool, false≢true}
use Rattle.std.proofs.lemmas.List.{append-nil, append_assoc, take-append-drop, length-append}
use Rattle.std.proofs.lemmas.Slice.Eq.{bytes_eq-Decides}
use Rattle.lts_base.proofs.ListLaws.{snoc_induction}
use Rattle.text_scan.specs.Blank.{is_blank, trimmed, without_back}
use Rattle.text_scan.specs.Lines.{without_cr}
use Rattle.text_scan.specs.Listing.{has_bytes}
use Rattle.text_scan.proofs.BlankLaws.{back_blank, back_other}
use Rattle.aut_text.specs.Grammar.{is_text}
use Rattle.aut_text.specs.Pieces.{Kept, IsBlank, IsKept, IsKeptBy}
use Rattle.lts_base.specs.declared.limits.TheConstants.{MOST_LINE_BYTES}

-- some byte is no blank
abbrev pub any_text : List ℕ → Bool
any_text [] = false
any_text (b ∷ bytes) = if is_blank b then any_text bytes else true

back_some : (b : ℕ) (bytes : List ℕ) → is_blank b ≡ false → has_bytes (without_back (b ∷ bytes)) ≡ true
back_some b bytes other = snoc_induction (λ t. has_bytes (without_back (b ∷ t)) ≡ true) (rw (back_other [] b other) refl) (λ t c before. elim (cases_Bool (is_blank c)) [
  | inl blank ↦ rw (back_blank (b ∷ t) c blank) before
  | inr some ↦ rw (back_other (b ∷ t) c some) refl
]) bytes

pub trimmed_any : (bytes : List ℕ) → has_bytes (trimmed bytes) ≡ any_text bytes
trimmed_any [] = refl
trimmed_any (b ∷ bytes) = elim (cases_Bool (is_blank b)) [
  | inl blank ↦ rw blank (trimmed_any bytes)
  | inr other ↦ rw other (back_some b bytes other)
]

pub any_text-append : (xs ys : List ℕ) → any_text (xs ++ ys) ≡ (any_text xs || any_text ys)
any_text-append [] ys = refl
any_text-append (b ∷ xs) ys = elim (cases_Bool (is_blank b)) [
  | inl blank ↦ rw blank (any_text-append xs ys)
  | inr other ↦ rw other refl
]

-- bytes before others aren't looked at for a CR
cr_later : (b c : ℕ) (bytes : List ℕ) → without_cr (b ∷ c ∷ bytes) ≡ b ∷ without_cr (c ∷ bytes)
cr_later b c bytes = go (length bytes) (length (b ∷ c ∷ bytes) - 1) (length (c ∷ bytes) - 1) (omega arith) (omega arith)
  where
    pick : (t : Bool) (xs ys : List ℕ) → (if t then b ∷ xs else b ∷ ys) ≡ b ∷ (if t then xs else ys)
    pick true xs ys = refl
    pick false xs ys = refl

    go : (n long short : ℕ) → long ≡ suc n → short ≡ n → (if bytes_eq (drop long (b ∷ c ∷ bytes)) (13 ∷ []) then take long (b ∷ c ∷ bytes) else b ∷ c ∷ bytes) ≡ b ∷ (if bytes_eq (drop short (c ∷ bytes)) (13 ∷ []) then take short (c ∷ bytes) else c ∷ bytes)
    go n long short long_is short_is = rw (long_is, short_is) (pick (bytes_eq (drop n (c ∷ bytes)) (13 ∷ [])) (take n (c ∷ bytes)) (c ∷ bytes))

pub without_cr-append : (front : List ℕ) (c : ℕ) (bytes : List ℕ) → without_cr (front ++ c ∷ bytes) ≡ front ++ without_cr (c ∷ bytes)
without_cr-append [] c bytes = refl
without_cr-append (b ∷ []) c bytes = cr_later b c bytes
without_cr-append (b ∷ d ∷ front) c bytes = cr_later b d (front ++ c ∷ bytes) ∙ ap {A = List ℕ} {B = List ℕ} (λ t. b ∷ t) (without_cr-append (d ∷ front) c bytes)

-- what stands after the part without a CR at the end is blank
pub split_cr : (bytes : List ℕ) → (rest : List ℕ) × (bytes ≡ without_cr bytes ++ rest) × (is_text rest ≡ false)
split_cr bytes = go (bytes_eq (drop (length bytes - 1) bytes) (13 ∷ [])) refl
  where
    go : (t : Bool) → bytes_eq (drop (length bytes - 1) bytes) (13 ∷ []) ≡ t → (rest : List ℕ) × (bytes ≡ without_cr bytes ++ rest) × (is_text rest ≡ false)
    go true is =
        let cr : drop (length bytes - 1) bytes ≡ 13 ∷ [] = (bytes_eq-Decides (drop (length bytes - 1) bytes) (13 ∷ [])).0 is in
        (drop (length bytes - 1) bytes, rw is (sym (take-append-drop (length bytes - 1) bytes)), ap {A = List ℕ} {B = Bool} is_text cr)
    go false not = ([], rw not (sym (append-nil bytes)), refl)

pub is_text-any : (line : List ℕ) → is_text line ≡ any_text (without_cr line)
is_text-any line = trimmed_any (without_cr line)

-- a line of two parts has text where one of them has
pub is_text-joined : (front : List ℕ) (c : ℕ) (bytes : List ℕ) → is_text (front ++ c ∷ bytes) ≡ (any_text front || is_text (c ∷ bytes))
is_text-joined front c bytes =
    is_text-any (front ++ c ∷ bytes) ∙ ap any_text (without_cr-append front c bytes) ∙ any_text-append front (without_cr (c ∷ bytes))
    ∙ ap {A = Bool} {B = Bool} (λ b. any_text front || b) (sym (is_text-any (c ∷ bytes)))

or_true : (a b : Bool) → a ≡ true → (a || b) ≡ true
or_true a b is = rw is refl

-- what has text has a byte that is no blank
pub any_of_text : (line : List ℕ) → is_text line ≡ true → any_text line ≡ true
any_of_text line text =
    let (rest, whole, blank) = split_cr line in
    let front : any_text (without_cr line) ≡ true = sym (is_text-any line) ∙ text in
    ap {A = List ℕ} {B = Bool} any_text whole ∙ any_text-append (without_cr line) rest ∙ or_true (any_text (without_cr line)) (any_text rest) front

-- a line with text has text when it goes on
pub is_text-more : (line more : List ℕ) → is_text line ≡ true → is_text (line ++ more) ≡ true
is_text-more line [] text = rw append-nil text
is_text-more line (c ∷ more) text = is_text-joined line c more ∙ or_true (any_text line) (is_text (c ∷ more)) (any_of_text line text)

-- blanks at the front of a line count for nothing
pub is_text-blanks : (blanks line : List ℕ) → any_text blanks ≡ false → is_text (blanks ++ line) ≡ is_text line
is_text-blanks blanks [] none = elim (cases_Bool (is_text (blanks ++ []))) [
  | inl text ↦ absurd (false≢true (sym none ∙ any_of_text blanks (rw append-nil at text)))
  | inr not ↦ not
]
is_text-blanks blanks (c ∷ line) none = is_text-joined blanks c line ∙ ap {A = Bool} {B = Bool} (λ b. b || is_text (c ∷ line)) none

-- blanks by their bytes
pub no_text_in : (blanks : List ℕ) → IsBlank blanks → any_text blanks ≡ false
no_text_in blanks blank = sym (trimmed_any blanks) ∙ blank

-- what is kept stands for the line: it is the line, or both are blank
pub kept_same : (line : List ℕ) (k : Kept) → IsKept line k → (line ≡ k.bytes) ⊎ ((is_text line ≡ false) × (is_text k.bytes ≡ false))
kept_same line k kept = go k.skipped kept.form
  where
    go : (skipped : Bool) → IsKeptBy line kept.blanks k.bytes skipped → (line ≡ k.bytes) ⊎ ((is_text line ≡ false) × (is_text k.bytes ≡ false))
    go false (none, short) = inl (kept.joined ∙ ap {A = List ℕ} {B = List ℕ} (λ t. t ++ k.bytes) none)
    go true (long, blank) = inr (ap {A = List ℕ} {B = Bool} is_text kept.joined ∙ is_text-blanks kept.blanks k.bytes (no_text_in kept.blanks kept.blank) ∙ blank, blank)

-- a line that is too long and has text isn't kept
pub kept_excludes : (line : List ℕ) (k : Kept) → IsKept line k → MOST_LINE_BYTES < length line → is_text line ≡ true → ⊥
kept_excludes line k kept long text = go k.skipped kept.form (kept_same line k kept)
  where
    go : (skipped : Bool) → IsKeptBy line kept.blanks k.bytes skipped → (line ≡ k.bytes) ⊎ ((is_text line ≡ false) × (is_text k.bytes ≡ false)) → ⊥
    go false (none, short) same = omega (arith, short, long)
    go true (over, blank) (inl same) = false≢true (sym blank ∙ ap {A = List ℕ} {B = Bool} is_text (sym same) ∙ text)
    go true (over, blank) (inr (none, also)) = false≢true (sym none ∙ text)

-- no byte is kept of an empty line, and of another some byte is, or some were skipped
pub IsKept-none : (k : Kept) → k.bytes ≡ [] → k.skipped ≡ false → (line : List ℕ) → IsKept line k → line ≡ []
IsKept-none k none whole line kept =
    let (blanks, short) : (kept.blanks ≡ []) × (length line ≤ MOST_LINE_BYTES) = rw whole at kept.form in
    kept.joined ∙ rw (blanks, none) refl

pub IsKept-new : IsKept [] (record { bytes = []; skipped = false })
IsKept-new = record { blanks = []; joined = refl; blank = refl; form = (refl, omega arith) }

-- bytes are added to a line that isn't too long with them
pub IsKept-add : (line more : List ℕ) (k : Kept) → IsKept line k → k.skipped ≡ false → length k.bytes + length more ≤ MOST_LINE_BYTES → IsKept (line ++ more) (record { bytes = k.bytes ++ more; skipped = k.skipped })
IsKept-add line more k kept whole fits =
    let (blanks, short) : (kept.blanks ≡ []) × (length line ≤ MOST_LINE_BYTES) = rw whole at kept.form in
    let same : line ≡ k.bytes = kept.joined ∙ ap {A = List ℕ} {B = List ℕ} (λ t. t ++ k.bytes) blanks in
    record { blanks = []; joined = ap {A = List ℕ} {B = List ℕ} (λ t. t ++ more) same; blank = refl; form = rw whole (refl, rw (same, length-append) fits) }

-- a line is too long with more bytes than there is room for, and so is one of which bytes were skipped
pub kept_over : (line more : List ℕ) (k : Kept) → IsKept line k → k.skipped ≡ false → MOST_LINE_BYTES < length k.bytes + length more → MOST_LINE_BYTES < length (line ++ more)
kept_over line more k kept whole over =
    let (blanks, short) : (kept.blanks ≡ []) × (length line ≤ MOST_LINE_BYTES) = rw whole at kept.form in
    let same : line ≡ k.bytes = kept.joined ∙ ap {A = List ℕ} {B = List ℕ} (λ t. t ++ k.bytes) blanks in
    rw (same, length-append) over

pub kept_long : (line : List ℕ) (k : Kept) → IsKept line k → k.skipped ≡ true → MOST_LINE_BYTES < length line
kept_long line k kept skipped =
    let (long, blank) : (MOST_LINE_BYTES < length line) × (is_text k.bytes ≡ false) = rw skipped at kept.form in
    long

pub long_more : (line more : List ℕ) → MOST_LINE_BYTES < length line → MOST_LINE_BYTES < length (line ++ more)
long_more line more long = rw length-append (omega (arith, long))

pub long_some : (line : List ℕ) → MOST_LINE_BYTES < length line → line ≡ [] → ⊥
long_some line long none = omega (arith, long, ap {A = List ℕ} {B = ℕ} length none)

-- some byte is kept of a line that has one, where none were skipped
pub kept_some : (line : List ℕ) (k : Kept) → IsKept line k → (k.bytes ≡ [] → ⊥) → line ≡ [] → ⊥
kept_some line k kept some none = go kept.blanks k.bytes (sym kept.joined ∙ none) some
  where
    go : (xs ys : List ℕ) → xs ++ ys ≡ [] → (ys ≡ [] → ⊥) → ⊥
    go [] ys e other = other e
    go (x ∷ xs) ys e other = cc

-- a line of what is kept and some bytes has text where one of the two has
pub kept_joined : (bytes more : List ℕ) → 0 < length more → is_text (bytes ++ more) ≡ (has_bytes (trimmed bytes) || is_text more)
kept_joined bytes [] some = absurd (omega (arith, some))
kept_joined bytes (c ∷ more) some = is_text-joined bytes c more ∙ ap {A = Bool} {B = Bool} (λ b. b || is_text (c ∷ more)) (sym (trimmed_any bytes))

-- a line with text in what is kept and more has text with the more
pub text_more : (line more : List ℕ) (k : Kept) → IsKept line k → is_text (k.bytes ++ more) ≡ true → is_text (line ++ more) ≡ true
text_more line more k kept text =
    ap {A = List ℕ} {B = Bool} (λ t. is_text (t ++ more)) kept.joined ∙ ap {A = List ℕ} {B = Bool} is_text (append_assoc kept.blanks k.bytes more)
    ∙ is_text-blanks kept.blanks (k.bytes ++ more) (no_text_in kept.blanks kept.blank) ∙ text

or_false : (a b : Bool) → (a || b) ≡ false → (a ≡ false) × (b ≡ false)
or_false true b none = absurd (false≢true (sym none))
or_false false b none = (refl, none)

-- of a line that is too long and blank the last CR is kept
IsKept-cut : (line : List ℕ) (k : Kept) (c : ℕ) (more : List ℕ) → IsKept line k → is_text (k.bytes ++ c ∷ more) ≡ false → MOST_LINE_BYTES < length (line ++ c ∷ more) →
    IsKept (line ++ c ∷ more) (record { bytes = drop (length (without_cr (c ∷ more))) (c ∷ more); skipped = true })
IsKept-cut line k c more kept none long =
    let (rest, whole, blank) = split_cr (c ∷ more) in
    let (front, back) = or_false (any_text k.bytes) (is_text (c ∷ more)) (sym (is_text-joined k.bytes c more) ∙ none) in
    let cut : drop (length (without_cr (c ∷ more))) (c ∷ more) ≡ rest = ap {A = List ℕ} {B = List ℕ} (drop (length (without_cr (c ∷ more)))) whole ∙ drop-append_seam (without_cr (c ∷ more)) rest in
    let own : any_text line ≡ false = ap any_text kept.joined ∙ any_text-append kept.blanks k.bytes ∙ rw (no_text_in kept.blanks kept.blank) front in
    let last : any_text (without_cr (c ∷ more)) ≡ false = sym (is_text-any (c ∷ more)) ∙ back in
    record {
      blanks = line ++ without_cr (c ∷ more);
      joined = ap {A = List ℕ} {B = List ℕ} (λ t. line ++ t) (whole ∙ ap {A = List ℕ} {B = List ℕ} (λ t. without_cr (c ∷ more) ++ t) (sym cut)) ∙ sym (append_assoc line (without_cr (c ∷ more)) (drop (length (without_cr (c ∷ more))) (c ∷ more)));
      blank = trimmed_any (line ++ without_cr (c ∷ more)) ∙ any_text-append line (without_cr (c ∷ more)) ∙ rw own last;
      form = (long, ap {A = List ℕ} {B = Bool} is_text cut ∙ blank);
    }

pub IsKept-skip : (line more : List ℕ) (k : Kept) → (more ≡ [] → ⊥) → IsKept line k → is_text (k.bytes ++ more) ≡ false → MOST_LINE_BYTES < length (line ++ more) →
    IsKept (line ++ more) (record { bytes = drop (length (without_cr more)) more; skipped = true })
IsKept-skip line [] k some kept none long = absurd (some refl)
IsKept-skip line (c ∷ more) k some kept none long = IsKept-cut line k c more kept none long
