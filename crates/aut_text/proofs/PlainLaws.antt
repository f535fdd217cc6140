-- Laws on lines in the form in which most files write their moves.
use Rattle.std.proofs.Common.{◌≡◌, ◌∙◌, ℕ, zero, suc, true, codes, IfSome, inl, inr, ◌+◌, ◌-◌, ◌*◌, ◌<◌, ◌≤◌, List, [], ◌∷◌, ◌++◌, length, take, drop, get_or, refl, sym, ap, arith}
use Rattle.std.specs.Char.{digit_value}
use Rattle.std.specs.Str.Parse.{AllDigits, digits_value}
use Rattle.std.proofs.Math.Seq.{take-length}
use Rattle.std.proofs.lemmas.Int.Digits.{digits_push, digits_value_push}
use Rattle.std.proofs.lemmas.List.{append-nil, append_assoc, length-append}
use Rattle.text_scan.specs.declared.number.TheConstants.{MOST_DIGITS}
use Rattle.std.specs.Str.{IsUtf8, bytes_eq}
use Rattle.std.proofs.lemmas.Bool.{cases_Bool, false≢true}
use Rattle.std.proofs.lemmas.List.{length_push}
use Rattle.std.proofs.lemmas.Slice.Eq.{bytes_eq-Decides}
use Rattle.std.proofs.lemmas.Str.{IsUtf8-nil, IsUtf8-append}
use Rattle.lts_base.specs.declared.limits.TheConstants.{MOST_STATES, MOST_MOVES, MOST_LINE_BYTES}
use Rattle.lts_base.specs.Alphabet.{IsLabel}
use Rattle.lts_base.proofs.ListLaws.{snoc_cases, snoc_induction}
use Rattle.text_scan.specs.Blank.{is_blank, without_front, without_back, trimmed}
use Rattle.text_scan.specs.Cut.{Lacks}
use Rattle.text_scan.specs.Decimal.{IsDecimal}
use Rattle.text_scan.specs.Lines.{without_cr}
use Rattle.text_scan.specs.Listing.{has_bytes, IsPlain}
use Rattle.text_scan.proofs.BlankLaws.{back_blank, back_other, blank_low}
use Rattle.aut_text.specs.Form.{IsOpening, IsClosing, IsMove, is_quoted, unquoted, label_in, visible}
use Rattle.aut_text.specs.Parts.{Parts, AddsMove, named_moves}
use Rattle.aut_text.specs.Grammar.{IsMoveLine}
use Rattle.aut_text.specs.Reading.{AddsLine}
use Rattle.aut_text.proofs.FormLaws.{quoted_is}
use Rattle.aut_text.proofs.ReadLaws.{named_count}
use Rattle.aut_text.proofs.SpellingLaws.{digit_shows, Lacks-digits, Lacks-append, trimmed_digits, back_digits, unquoted_is, IsUtf8-digits, IsUtf8-add}
use Rattle.aut_text.specs.Plain.{HasNumber, IsPlainText}

-- the bytes before the rest are digits with this value, which isn't far above the most states
pub record AreDigits (bytes rest : List ℕ) (value : ℕ) : Type 0 where
  pub digits : List ℕ
  pub whole : bytes ≡ digits ++ rest
  pub all : AllDigits 10 digits
  pub is : digits_value 10 digits ≡ value
  pub low : value < 10 * MOST_STATES

pub AreDigits-none : (bytes : List ℕ) → AreDigits bytes bytes 0
AreDigits-none bytes = record { digits = []; whole = refl; all = tt; is = refl; low = omega arith }

-- a byte and what follows it
first_of : (rest : List ℕ) → 1 ≤ length rest → rest ≡ get_or rest 0 0 ∷ take (length rest - 1) (drop 1 rest)
first_of [] some = absurd (omega (arith, some))
first_of (x ∷ xs) some = ap {A = List ℕ} {B = List ℕ} (λ t. x ∷ t) (sym (take-all-of xs (length (x ∷ xs) - 1) (omega arith)))
  where
    take-all-of : (xs : List ℕ) (n : ℕ) → n ≡ length xs → take n xs ≡ xs
    take-all-of xs n is = rw is (take-length xs)

pub AreDigits-step : (bytes rest : List ℕ) (value digit : ℕ) → AreDigits bytes rest value → 1 ≤ length rest → digit_value (get_or rest 0 0) ≡ digit → digit < 10 → value < MOST_STATES → AreDigits bytes (take (length rest - 1) (drop 1 rest)) (value * 10 + digit)
AreDigits-step bytes rest value digit are some is low few =
    let split : rest ≡ get_or rest 0 0 ∷ take (length rest - 1) (drop 1 rest) = first_of rest some in
    record {
      digits = are.digits ++ get_or rest 0 0 ∷ [];
      whole = are.whole ∙ ap {A = List ℕ} {B = List ℕ} (λ t. are.digits ++ t) split ∙ sym (append_assoc are.digits (get_or rest 0 0 ∷ []) (take (length rest - 1) (drop 1 rest)));
      all = digits_push 10 are.digits (get_or rest 0 0) are.all (omega (arith, is, low));
      is = digits_value_push 10 are.digits (get_or rest 0 0) ∙ rw (are.is, is) refl;
      low = omega (arith, low, few);
    }

-- digits that are some and few enough are a decimal
pub HasNumber-read : (states : ℕ) (bytes rest : List ℕ) (value count : ℕ) → AreDigits bytes rest value → count ≡ length bytes - length rest → 0 < count → count ≤ MOST_DIGITS → value < states → HasNumber states bytes value rest
HasNumber-read states bytes rest value count are is some few below =
    let size : length bytes ≡ length are.digits + length rest = ap {A = List ℕ} {B = ℕ} length are.whole ∙ length-append are.digits rest in
    let same : length are.digits ≡ count = omega (arith, size, is) in
    record {
      digits = are.digits;
      whole = are.whole;
      number = record {
        some = omega (arith, same, some);
        short = omega (arith, same, few);
        digits = are.all;
        is = are.is;
        below = omega (arith, are.low);
      };
      below = below;
    }

-- a text whose blanks at the front were dropped is UTF-8 where what is left is
IsUtf8-from_front : (bytes : List ℕ) → IsUtf8 (without_front bytes) → IsUtf8 bytes
IsUtf8-from_front [] utf8 = utf8
IsUtf8-from_front (b ∷ bytes) utf8 = elim (cases_Bool (is_blank b)) [
  | inl blank ↦ IsUtf8-add b bytes (blank_low b blank) (IsUtf8-from_front bytes (rw blank at utf8))
  | inr other ↦ rw other at utf8
]

IsUtf8-from_back : (n : ℕ) (bytes : List ℕ) → length bytes ≤ n → IsUtf8 (without_back bytes) → IsUtf8 bytes
IsUtf8-from_back n [] few utf8 = IsUtf8-nil
IsUtf8-from_back zero (b ∷ bytes) few utf8 = absurd (omega (arith, few))
IsUtf8-from_back (suc n) (b ∷ bytes) few utf8 = elim (snoc_cases (b ∷ bytes)) [
  | inl none ↦ absurd (cc)
  | inr (front, last, whole) ↦
      let size : length (b ∷ bytes) ≡ length front + 1 = ap {A = List ℕ} {B = ℕ} length whole ∙ length_push front last in
      elim (cases_Bool (is_blank last)) [
        | inl blank ↦
            let short : without_back (b ∷ bytes) ≡ without_back front = ap without_back whole ∙ back_blank front last blank in
            let before : IsUtf8 front = IsUtf8-from_back n front (omega (arith, size, few)) (rw short at utf8) in
            rw whole (IsUtf8-append front (last ∷ []) before (IsUtf8-add last [] (blank_low last blank) IsUtf8-nil))
        | inr other ↦
            let same : without_back (b ∷ bytes) ≡ b ∷ bytes = ap without_back whole ∙ back_other front last other ∙ sym whole in
            rw same at utf8
      ]
]

-- what stands between the commas is UTF-8 where the label in it is
pub IsUtf8-middle : (middle : List ℕ) → IsUtf8 (label_in middle) → IsUtf8 middle
IsUtf8-middle middle utf8 =
    IsUtf8-from_front middle (IsUtf8-from_back (length (without_front middle)) (without_front middle) (omega arith) (quoted (trimmed middle) utf8))
  where
    quoted : (text : List ℕ) → IsUtf8 (unquoted text) → IsUtf8 text
    quoted text inner = elim (cases_Bool (is_quoted text)) [
      | inl yes_is ↦
          let (label, whole) = quoted_is text yes_is in
          let bare : unquoted text ≡ label = ap unquoted whole ∙ unquoted_is label in
          let label_utf8 : IsUtf8 label = rw bare at inner in
          rw whole (IsUtf8-add 34 (label ++ 34 ∷ []) (omega arith) (IsUtf8-append label (34 ∷ []) label_utf8 (IsUtf8-add 34 [] (omega arith) IsUtf8-nil)))
      | inr not_so ↦ rw not_so at inner
    ]

-- the label of Tau, and a label that is seen, are labels
IsLabel-i : IsLabel (codes "i")
IsLabel-i = record { some = omega arith; short = omega arith; plain = low; utf8 = IsUtf8-add 105 [] (omega arith) IsUtf8-nil }
  where
    low : IsPlain (codes "i")
    low zero d below = omega arith
    low (suc k) d below = absurd (omega (arith, below))

IsLabel-tau : IsLabel (codes "tau")
IsLabel-tau = record { some = omega arith; short = omega arith; plain = low; utf8 = IsUtf8-add 116 _ (omega arith) (IsUtf8-add 97 _ (omega arith) (IsUtf8-add 117 [] (omega arith) IsUtf8-nil)) }
  where
    low : IsPlain (codes "tau")
    low zero d below = omega arith
    low (suc zero) d below = omega arith
    low (suc (suc zero)) d below = omega arith
    low (suc (suc (suc k))) d below = absurd (omega (arith, below))

label_is : (label : List ℕ) → IfSome (visible label) IsLabel → IsLabel label
label_is label seen = elim (cases_Bool (bytes_eq label (codes "i"))) [
  | inl i ↦ rw ((bytes_eq-Decides label (codes "i")).0 i) IsLabel-i
  | inr no_i ↦
      elim (cases_Bool (bytes_eq label (codes "tau"))) [
        | inl tau ↦ rw ((bytes_eq-Decides label (codes "tau")).0 tau) IsLabel-tau
        | inr no_tau ↦ rw (no_i, no_tau) at seen
      ]
]

-- blanks only
abbrev AreBlanks : List ℕ → Type 0
AreBlanks [] = Unit
AreBlanks (b ∷ bytes) = (is_blank b ≡ true) × AreBlanks bytes

AreBlanks-append : (a b : List ℕ) → AreBlanks a → AreBlanks b → AreBlanks (a ++ b)
AreBlanks-append [] b first then = then
AreBlanks-append (x ∷ a) b first then = (first.0, AreBlanks-append a b first.1 then)

-- a text is the blanks at its front and what is left without them
front_of : (bytes : List ℕ) → (blanks : List ℕ) × AreBlanks blanks × (bytes ≡ blanks ++ without_front bytes)
front_of [] = ([], tt, refl)
front_of (b ∷ bytes) = elim (cases_Bool (is_blank b)) [
  | inl blank ↦
      let (blanks, are, whole) = front_of bytes in
      (b ∷ blanks, (blank, are), rw blank (ap {A = List ℕ} {B = List ℕ} (λ t. b ∷ t) whole))
  | inr other ↦ ([], tt, rw other refl)
]

-- a text is what is left without the blanks at its back, and these
back_of : (bytes : List ℕ) → (blanks : List ℕ) × AreBlanks blanks × (bytes ≡ without_back bytes ++ blanks)
back_of = snoc_induction (λ bytes. (blanks : List ℕ) × AreBlanks blanks × (bytes ≡ without_back bytes ++ blanks)) ([], tt, refl) (λ bytes b before. elim (cases_Bool (is_blank b)) [
  | inl blank ↦
      let (blanks, are, whole) = before in (
        blanks ++ b ∷ [],
        AreBlanks-append blanks (b ∷ []) are (blank, tt),
        rw (back_blank bytes b blank) (ap {A = List ℕ} {B = List ℕ} (λ t. t ++ b ∷ []) whole ∙ append_assoc (without_back bytes) blanks (b ∷ [])),
      )
  | inr other ↦ ([], tt, rw (back_other bytes b other) (sym (append-nil (bytes ++ b ∷ []))))
])

-- a text with the blanks at its ends
record Around (bytes : List ℕ) : Type 0 where
  front : List ℕ
  back : List ℕ
  front_are : AreBlanks front
  back_are : AreBlanks back
  whole : bytes ≡ front ++ (trimmed bytes ++ back)

around : (bytes : List ℕ) → Around bytes
around bytes =
    let (front, front_are, front_whole) = front_of bytes in
    let (back, back_are, back_whole) = back_of (without_front bytes) in
    record { front = front; back = back; front_are = front_are; back_are = back_are; whole = front_whole ∙ ap {A = List ℕ} {B = List ℕ} (λ t. front ++ t) back_whole }

front_blanks : (a bytes : List ℕ) → AreBlanks a → without_front (a ++ bytes) ≡ without_front bytes
front_blanks [] bytes are = refl
front_blanks (x ∷ a) bytes are = rw (are.0) (front_blanks a bytes are.1)

back_blanks : (b bytes : List ℕ) → AreBlanks b → without_back (bytes ++ b) ≡ without_back bytes
back_blanks [] bytes are = ap without_back (append-nil bytes)
back_blanks (x ∷ b) bytes are =
    let joined : bytes ++ x ∷ b ≡ (bytes ++ x ∷ []) ++ b = sym (append_assoc bytes (x ∷ []) b) in
    ap without_back joined ∙ back_blanks b (bytes ++ x ∷ []) are.1 ∙ back_blank bytes x are.0

-- no blanks go from a text that begins with digits
front_shown : (digits bytes : List ℕ) → 0 < length digits → AllDigits 10 digits → without_front (digits ++ bytes) ≡ digits ++ bytes
front_shown [] bytes some all = absurd (omega (arith, some))
front_shown (d ∷ digits) bytes some all = rw (digit_shows d all.0) refl

Lacks-blanks : (a : List ℕ) → AreBlanks a → Lacks 44 a
Lacks-blanks [] are = tt
Lacks-blanks (x ∷ a) are = ((λ same. false≢true (sym (rw same refl) ∙ are.0)), Lacks-blanks a are.1)

IsUtf8-blanks : (a : List ℕ) → AreBlanks a → IsUtf8 a
IsUtf8-blanks [] are = IsUtf8-nil
IsUtf8-blanks (x ∷ a) are = IsUtf8-add x a (blank_low x are.0) (IsUtf8-blanks a are.1)

-- a part of a line beside its label
record IsBeside (bytes : List ℕ) : Type 0 where
  lacks : Lacks 44 bytes
  utf8 : IsUtf8 bytes

beside_join : (a b : List ℕ) → IsBeside a → IsBeside b → IsBeside (a ++ b)
beside_join a b first then = record { lacks = Lacks-append 44 a b first.lacks then.lacks; utf8 = IsUtf8-append a b first.utf8 then.utf8 }

beside_blanks : (a : List ℕ) → AreBlanks a → IsBeside a
beside_blanks a are = record { lacks = Lacks-blanks a are; utf8 = IsUtf8-blanks a are }

beside_digits : (digits : List ℕ) → AllDigits 10 digits → IsBeside digits
beside_digits digits all = record { lacks = Lacks-digits 44 digits (omega arith) all; utf8 = IsUtf8-digits digits all }

beside_bracket : (b : ℕ) → b < 44 → IsBeside (b ∷ [])
beside_bracket b low = record { lacks = ((λ e. omega (arith, e, low)), tt); utf8 = IsUtf8-add b [] (omega (arith, low)) IsUtf8-nil }

-- the bytes before the first comma, and those after the last one
abbrev front_with : List ℕ → List ℕ → List ℕ → List ℕ → List ℕ
front_with a c digits e = a ++ ((40 ∷ (c ++ digits)) ++ e)

abbrev back_with : List ℕ → List ℕ → List ℕ → List ℕ → List ℕ
back_with f digits d b = f ++ ((digits ++ (d ++ 41 ∷ [])) ++ b)

opening_with : (a c digits e : List ℕ) (n : ℕ) → AreBlanks a → AreBlanks c → AreBlanks e → IsDecimal digits n → IsOpening (front_with a c digits e) n
opening_with a c digits e n a_are c_are e_are is =
    let inner : trimmed (c ++ digits) ≡ digits = ap without_back (front_blanks c digits c_are) ∙ trimmed_digits digits is.some is.digits in
    record {
      digits = c ++ digits;
      bracket = ap without_back (front_blanks a ((40 ∷ (c ++ digits)) ++ e) a_are) ∙ back_blanks e (40 ∷ (c ++ digits)) e_are ∙ back_digits (40 ∷ c) digits is.some is.digits;
      number = rw inner is;
    }

closing_with : (f digits d b : List ℕ) (n : ℕ) → AreBlanks f → AreBlanks d → AreBlanks b → IsDecimal digits n → IsClosing (back_with f digits d b) n
closing_with f digits d b n f_are d_are b_are is =
    let inner : trimmed (digits ++ d) ≡ digits = ap without_back (front_shown digits d is.some is.digits) ∙ back_blanks d digits d_are ∙ back_digits [] digits is.some is.digits in
    let closed : digits ++ (d ++ 41 ∷ []) ≡ (digits ++ d) ++ 41 ∷ [] = sym (append_assoc digits d (41 ∷ [])) in
    let apart : (digits ++ (d ++ 41 ∷ [])) ++ b ≡ digits ++ ((d ++ 41 ∷ []) ++ b) = append_assoc digits (d ++ 41 ∷ []) b in
    let shown : without_front ((digits ++ (d ++ 41 ∷ [])) ++ b) ≡ (digits ++ (d ++ 41 ∷ [])) ++ b = ap without_front apart ∙ front_shown digits ((d ++ 41 ∷ []) ++ b) is.some is.digits ∙ sym apart in
    record {
      digits = digits ++ d;
      bracket = ap without_back (front_blanks f ((digits ++ (d ++ 41 ∷ [])) ++ b) f_are ∙ shown) ∙ back_blanks b (digits ++ (d ++ 41 ∷ [])) b_are ∙ ap without_back closed ∙ back_other (digits ++ d) 41 refl;
      number = rw inner is;
    }

-- a plain text, cut at its first and its last comma
record Cuts (text middle : List ℕ) (from to : ℕ) : Type 0 where
  front : List ℕ
  back : List ℕ
  whole : text ≡ front ++ 44 ∷ (middle ++ 44 ∷ back)
  front_is : IsBeside front
  back_is : IsBeside back
  opening : IsOpening front from
  closing : IsClosing back to

plain_cuts : (states : ℕ) (text middle : List ℕ) (from to : ℕ) → IsPlainText states text from middle to → Cuts text middle from to
plain_cuts states text middle from to plain =
    let outer = around text in
    let inner = around plain.inner in
    let between = around plain.between in
    let commas : plain.between ≡ between.front ++ ((44 ∷ (middle ++ 44 ∷ [])) ++ between.back) = between.whole ∙ ap {A = List ℕ} {B = List ℕ} (λ t. between.front ++ (t ++ between.back)) plain.commas in
    let numbers : plain.inner ≡ inner.front ++ ((plain.first ++ ((between.front ++ ((44 ∷ (middle ++ 44 ∷ [])) ++ between.back)) ++ plain.last)) ++ inner.back) = inner.whole ∙ ap {A = List ℕ} {B = List ℕ} (λ t. inner.front ++ (t ++ inner.back)) (plain.numbers ∙ ap {A = List ℕ} {B = List ℕ} (λ t. plain.first ++ (t ++ plain.last)) commas) in
    let brackets : text ≡ outer.front ++ ((40 ∷ ((inner.front ++ ((plain.first ++ ((between.front ++ ((44 ∷ (middle ++ 44 ∷ [])) ++ between.back)) ++ plain.last)) ++ inner.back)) ++ 41 ∷ [])) ++ outer.back) = outer.whole ∙ ap {A = List ℕ} {B = List ℕ} (λ t. outer.front ++ (t ++ outer.back)) (plain.brackets ∙ ap {A = List ℕ} {B = List ℕ} (λ t. 40 ∷ (t ++ 41 ∷ [])) numbers) in
    let number_is : IsBeside plain.first = beside_digits plain.first plain.from_is.digits in
    let last_is : IsBeside plain.last = beside_digits plain.last plain.to_is.digits in
    record {
      front = front_with outer.front inner.front plain.first between.front;
      back = back_with between.back plain.last inner.back outer.back;
      whole = brackets ∙ simp append_assoc;
      front_is = beside_join outer.front _ (beside_blanks outer.front outer.front_are) (beside_join (40 ∷ (inner.front ++ plain.first)) between.front (beside_join (40 ∷ []) (inner.front ++ plain.first) (beside_bracket 40 (omega arith)) (beside_join inner.front plain.first (beside_blanks inner.front inner.front_are) number_is)) (beside_blanks between.front between.front_are));
      back_is = beside_join between.back _ (beside_blanks between.back between.back_are) (beside_join (plain.last ++ (inner.back ++ 41 ∷ [])) outer.back (beside_join plain.last (inner.back ++ 41 ∷ []) last_is (beside_join inner.back (41 ∷ []) (beside_blanks inner.back inner.back_are) (beside_bracket 41 (omega arith)))) (beside_blanks outer.back outer.back_are));
      opening = opening_with outer.front inner.front plain.first between.front from outer.front_are inner.front_are between.front_are plain.from_is;
      closing = closing_with between.back plain.last inner.back outer.back to between.back_are inner.back_are outer.back_are plain.to_is;
    }

-- a plain text is that of a move
plain_move : (text middle : List ℕ) (from to : ℕ) → Cuts text middle from to → IsLabel (label_in middle) → IsMove text (record { from = from; label = label_in middle; to = to })
plain_move text middle from to cuts label = record {
  front = cuts.front;
  others = middle ++ 44 ∷ cuts.back;
  middle = middle;
  back = cuts.back;
  first_comma = record { whole = cuts.whole; first = cuts.front_is.lacks };
  last_comma = record { whole = refl; last = cuts.back_is.lacks };
  from = cuts.opening;
  label = refl;
  has = (label.some, label.plain);
  to = cuts.closing;
}

plain_utf8 : (text middle : List ℕ) (from to : ℕ) → Cuts text middle from to → IsUtf8 middle → IsUtf8 text
plain_utf8 text middle from to cuts utf8 =
    let back : IsUtf8 (middle ++ 44 ∷ cuts.back) = IsUtf8-append middle (44 ∷ cuts.back) utf8 (IsUtf8-add 44 cuts.back (omega arith) cuts.back_is.utf8) in
    rw (cuts.whole) (IsUtf8-append cuts.front _ cuts.front_is.utf8 (IsUtf8-add 44 _ (omega arith) back))

-- a plain line adds its move
pub plain_adds : (states : ℕ) (line middle : List ℕ) (from to : ℕ) (old new : Parts) → length line ≤ MOST_LINE_BYTES → length old.moves < MOST_MOVES → IsPlainText states (without_cr line) from middle to →
    IfSome (visible (label_in middle)) IsLabel → AddsMove old new (record { from = from; label = visible (label_in middle); to = to }) → AddsLine states line (named_moves old) (named_moves new)
plain_adds states line middle from to old new short room plain seen adds =
    let label : IsLabel (label_in middle) = label_is (label_in middle) seen in
    let cuts : Cuts (without_cr line) middle from to = plain_cuts states (without_cr line) middle from to plain in
    let is : IsMoveLine states line (record { from = from; label = visible (label_in middle); to = to }) =
    record {
      written = record { from = from; label = label_in middle; to = to };
      line_is = record {
        clean = record { short = short; utf8 = plain_utf8 (without_cr line) middle from to cuts (IsUtf8-middle middle label.utf8) };
        form = plain_move (without_cr line) middle from to cuts label;
        from = plain.from_below;
        to = plain.to_below;
        label = label.short;
      };
      is = refl;
    } in
    inr (ap has_bytes plain.brackets, (record { from = from; label = visible (label_in middle); to = to }, is, adds.moves, rw (named_count old) room))
