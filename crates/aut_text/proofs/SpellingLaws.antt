-- A header and a move that are printed without blanks have the form that is read.
use Rattle.std.proofs.Common.{◌≡◌, ◌∙◌, ℕ, zero, suc, ◌+◌, ◌-◌, ◌^◌, ◌<◌, ◌≤◌, true, false, nat_lt, List, [], ◌∷◌, ◌++◌, length, take, drop, get_or, inl, inr, refl, sym, ap, arith, All, decimal, codes}
use Rattle.std.specs.Char.{digit_value}
use Rattle.std.specs.Str.{IsUtf8}
use Rattle.std.specs.Str.Parse.{AllDigits}
use Rattle.std.proofs.lemmas.Bool.{cases_Bool}
use Rattle.std.proofs.lemmas.Bool.Decides.{Decides-ltb}
use Rattle.std.proofs.lemmas.Fmt.{digits_decimal, digits_value-decimal, decimal_nonempty, length-decimal-le, IsAscii-from_digits}
use Rattle.std.proofs.lemmas.List.{take_at, drop_at, length-append, append_assoc, length_push, get_or_push}
use Rattle.std.proofs.lemmas.Str.{IsUtf8-nil, IsUtf8-append, IsUtf8-from_ascii}
use Rattle.std.proofs.lemmas.Str.Ascii.{IsAscii-from_all}
use Rattle.std.proofs.lemmas.Str.Parse.{numerals_by_value, tells_digits, digit_from_value}
use Rattle.lts_base.proofs.ListLaws.{snoc_cases}
use Rattle.lts_base.specs.Alphabet.{IsLabel}
use Rattle.text_scan.specs.Decimal.{IsDecimal}
use Rattle.text_scan.specs.Blank.{is_blank, without_front, without_back, trimmed}
use Rattle.text_scan.specs.Cut.{Lacks}
use Rattle.text_scan.specs.Lines.{without_cr}
use Rattle.text_scan.specs.Listing.{has_bytes, IsPlain}
use Rattle.text_scan.proofs.BlankLaws.{back_other}
use Rattle.text_scan.proofs.CutLaws.{differs}
use Rattle.aut_text.specs.declared.header.Header.{Header}
use Rattle.aut_text.specs.Grammar.{is_text}
use Rattle.aut_text.specs.Form.{IsOpening, IsClosing, IsBeginning, IsHeader, Written, IsMove, unquoted, label_in}
use Rattle.lts_base.specs.declared.limits.TheConstants.{MOST_LABEL_BYTES, MOST_LINE_BYTES}

-- what is written of a number is a decimal of it
pub decimal_is : (n : ℕ) → n < 2 ^ 32 → IsDecimal (decimal n) n
decimal_is n low = record {
  some = decimal_nonempty n (omega (arith, low));
  short = length-decimal-le 20 n (omega arith) (omega (arith, low)) (omega (arith, low));
  digits = digits_decimal (numerals_by_value (AllDigits 10) tells_digits) n (omega (arith, low));
  is = digits_value-decimal (numerals_by_value (AllDigits 10) tells_digits) n (omega (arith, low));
  below = omega (arith, low);
}

-- a digit is no byte below 48, and no blank
pub digit_differs : (c mark : ℕ) → digit_value c < 10 → mark < 48 → c ≡ mark → ⊥
digit_differs c mark digit low same = let range = digit_from_value c digit in omega (arith, range, low, same)

pub digit_shows : (c : ℕ) → digit_value c < 10 → is_blank c ≡ false
digit_shows c digit = rw (differs c 32 (digit_differs c 32 digit (omega arith)), differs c 9 (digit_differs c 9 digit (omega arith))) refl

pub Lacks-digits : (mark : ℕ) (ds : List ℕ) → mark < 48 → AllDigits 10 ds → Lacks mark ds
Lacks-digits mark [] low digits = tt
Lacks-digits mark (c ∷ ds) low digits = (digit_differs c mark digits.0 low, Lacks-digits mark ds low digits.1)

-- what both parts lack
pub Lacks-append : (mark : ℕ) (a b : List ℕ) → Lacks mark a → Lacks mark b → Lacks mark (a ++ b)
Lacks-append mark [] b lacks_a lacks_b = lacks_b
Lacks-append mark (x ∷ a) b lacks_a lacks_b = (lacks_a.0, Lacks-append mark a b lacks_a.1 lacks_b)

-- a text without bytes below 32 has no LF
pub Lacks-plain : (text : List ℕ) → IsPlain text → Lacks 10 text
Lacks-plain [] plain = tt
Lacks-plain (b ∷ text) plain =
    let first : 32 ≤ b = plain zero 0 (omega arith) in
    ((λ same. omega (arith, first, same)), Lacks-plain text (λ k d below. plain (suc k) d (omega (arith, below))))

-- no blanks go from digits
pub front_digits : (ds : List ℕ) → AllDigits 10 ds → without_front ds ≡ ds
front_digits [] digits = refl
front_digits (c ∷ ds) digits = rw (digit_shows c digits.0) refl

last_digit : (front : List ℕ) (last : ℕ) → AllDigits 10 (front ++ last ∷ []) → digit_value last < 10
last_digit [] last digits = digits.0
last_digit (c ∷ front) last digits = last_digit front last digits.1

-- no blanks go from the end of a text that ends with digits
pub back_digits : (xs ds : List ℕ) → 0 < length ds → AllDigits 10 ds → without_back (xs ++ ds) ≡ xs ++ ds
back_digits xs ds some digits = elim (snoc_cases ds) [
  | inl none ↦ absurd (omega (arith, rw none at some))
  | inr (front, last, whole) ↦
      let digit : digit_value last < 10 = last_digit front last (rw whole at digits) in
      let joined : xs ++ ds ≡ (xs ++ front) ++ last ∷ [] = ap {A = List ℕ} {B = List ℕ} (λ t. xs ++ t) whole ∙ sym (append_assoc xs front (last ∷ [])) in
      rw joined (back_other (xs ++ front) last (digit_shows last digit))
]

pub trimmed_digits : (ds : List ℕ) → 0 < length ds → AllDigits 10 ds → trimmed ds ≡ ds
trimmed_digits ds some digits = rw (front_digits ds digits) (back_digits [] ds some digits)

pub trimmed_decimal : (ds : List ℕ) (n : ℕ) → IsDecimal ds n → IsDecimal (trimmed ds) n
trimmed_decimal ds n is = rw (trimmed_digits ds is.some is.digits) is

-- a bracket and a number, and a number and a bracket
pub opening_of : (ds : List ℕ) (n : ℕ) → IsDecimal ds n → IsOpening (40 ∷ ds) n
opening_of ds n is = record {
  digits = ds;
  bracket = back_digits (40 ∷ []) ds is.some is.digits;
  number = trimmed_decimal ds n is;
}

pub closing_front : (ds : List ℕ) → AllDigits 10 ds → without_front (ds ++ 41 ∷ []) ≡ ds ++ 41 ∷ []
closing_front [] digits = refl
closing_front (c ∷ ds) digits = rw (digit_shows c digits.0) refl

pub closing_of : (ds : List ℕ) (n : ℕ) → IsDecimal ds n → IsClosing (ds ++ 41 ∷ []) n
closing_of ds n is = record {
  digits = ds;
  bracket = rw (closing_front ds is.digits) (back_other ds 41 refl);
  number = trimmed_decimal ds n is;
}

-- `des`, a blank, a bracket and a number
pub beginning_of : (ds : List ℕ) (n : ℕ) → IsDecimal ds n → IsBeginning (codes "des (" ++ ds) n
beginning_of ds n is = record {
  opening = 32 ∷ 40 ∷ ds;
  word = back_digits (codes "des (") ds is.some is.digits;
  number = record {
    digits = ds;
    bracket = back_digits (40 ∷ []) ds is.some is.digits;
    number = trimmed_decimal ds n is;
  };
}

-- the line of a header whose numbers have these digits
abbrev pub header_line : List ℕ → List ℕ → List ℕ → List ℕ
header_line start transitions states = codes "des (" ++ (start ++ 44 ∷ (transitions ++ 44 ∷ (states ++ 41 ∷ [])))

pub header_of : (h : Header) (a b c : List ℕ) → IsDecimal a h.start → IsDecimal b h.transitions → IsDecimal c h.states → IsHeader (header_line a b c) h
header_of h a b c start transitions states = record {
  front = codes "des (" ++ a;
  others = b ++ 44 ∷ (c ++ 41 ∷ []);
  middle = b;
  back = c ++ 41 ∷ [];
  first_comma = record {
    whole = refl;
    first = Lacks-append 44 (codes "des (") a (λ e. omega (arith, e), (λ e. omega (arith, e), (λ e. omega (arith, e), (λ e. omega (arith, e), (λ e. omega (arith, e), tt))))) (Lacks-digits 44 a (omega arith) start.digits);
  };
  second_comma = record { whole = refl; first = Lacks-digits 44 b (omega arith) transitions.digits };
  start = beginning_of a h.start start;
  transitions = trimmed_decimal b h.transitions transitions;
  states = closing_of c h.states states;
}

pub two_at_least : (n : ℕ) → 2 ≤ n → nat_lt n 2 ≡ false
two_at_least n more = elim (cases_Bool (nat_lt n 2)) [
  | inl less ↦ let low : n < 2 = (Decides-ltb n 2).0 less in absurd (omega (arith, more, low))
  | inr not ↦ not
]

-- what stands in quotes
pub unquoted_is : (label : List ℕ) → unquoted (34 ∷ (label ++ 34 ∷ [])) ≡ label
unquoted_is label =
    let size : length (label ++ 34 ∷ []) ≡ length label + 1 = length_push label 34 in
    let long : nat_lt (suc (length (label ++ 34 ∷ []))) 2 ≡ false = two_at_least (suc (length (label ++ 34 ∷ []))) (omega (arith, size)) in
    let last : get_or (34 ∷ (label ++ 34 ∷ [])) (suc (length (label ++ 34 ∷ [])) - 1) 0 ≡ 34 = get_or_push (34 ∷ label) 34 0 (suc (length (label ++ 34 ∷ [])) - 1) (omega (arith, size)) in
    let between : take (suc (length (label ++ 34 ∷ [])) - 2) (label ++ 34 ∷ []) ≡ label = take_at label (34 ∷ []) (suc (length (label ++ 34 ∷ [])) - 2) (omega (arith, size)) in
    rw (long, last, between) refl

pub label_quoted : (label : List ℕ) → label_in (34 ∷ (label ++ 34 ∷ [])) ≡ label
label_quoted label = ap unquoted (back_other (34 ∷ label) 34 refl) ∙ unquoted_is label

-- the line of a move whose numbers have these digits
abbrev pub move_line : List ℕ → List ℕ → List ℕ → List ℕ
move_line from label to = 40 ∷ (from ++ 44 ∷ 34 ∷ (label ++ 34 ∷ 44 ∷ (to ++ 41 ∷ [])))

pub move_of : (w : Written) (a b : List ℕ) → IsDecimal a w.from → IsLabel w.label → IsDecimal b w.to → IsMove (move_line a w.label b) w
move_of w a b from label to = record {
  front = 40 ∷ a;
  others = 34 ∷ (w.label ++ 34 ∷ 44 ∷ (b ++ 41 ∷ []));
  middle = 34 ∷ (w.label ++ 34 ∷ []);
  back = b ++ 41 ∷ [];
  first_comma = record { whole = refl; first = (λ e. omega (arith, e), Lacks-digits 44 a (omega arith) from.digits) };
  last_comma = record {
    whole = ap {A = List ℕ} {B = List ℕ} (λ t. 34 ∷ t) (sym (append_assoc w.label (34 ∷ []) (44 ∷ (b ++ 41 ∷ []))));
    last = Lacks-append 44 b (41 ∷ []) (Lacks-digits 44 b (omega arith) to.digits) (λ e. omega (arith, e), tt);
  };
  from = opening_of a w.from from;
  label = sym (label_quoted w.label);
  has = (label.some, label.plain);
  to = closing_of b w.to to;
}

-- no CR goes from a line that ends with a bracket
pub without_cr_same : (xs : List ℕ) → without_cr (xs ++ 41 ∷ []) ≡ xs ++ 41 ∷ []
without_cr_same xs =
    let size : length (xs ++ 41 ∷ []) ≡ length xs + 1 = length_push xs 41 in
    let last : drop (length (xs ++ 41 ∷ []) - 1) (xs ++ 41 ∷ []) ≡ 41 ∷ [] = drop_at xs (41 ∷ []) (length (xs ++ 41 ∷ []) - 1) (omega (arith, size)) in
    rw last refl

-- the lines with the last bracket apart
pub header_end : (a b c : List ℕ) → header_line a b c ≡ (codes "des (" ++ (a ++ 44 ∷ (b ++ 44 ∷ c))) ++ 41 ∷ []
header_end a b c =
    ap {A = List ℕ} {B = List ℕ} (λ t. codes "des (" ++ (a ++ 44 ∷ t)) (sym (append_assoc b (44 ∷ c) (41 ∷ [])))
    ∙ ap {A = List ℕ} {B = List ℕ} (λ t. codes "des (" ++ t) (sym (append_assoc a (44 ∷ (b ++ 44 ∷ c)) (41 ∷ [])))

pub move_end : (a label b : List ℕ) → move_line a label b ≡ (40 ∷ (a ++ 44 ∷ 34 ∷ (label ++ 34 ∷ 44 ∷ b))) ++ 41 ∷ []
move_end a label b =
    ap {A = List ℕ} {B = List ℕ} (λ t. 40 ∷ (a ++ 44 ∷ 34 ∷ t)) (sym (append_assoc label (34 ∷ 44 ∷ b) (41 ∷ [])))
    ∙ ap {A = List ℕ} {B = List ℕ} (λ t. 40 ∷ t) (sym (append_assoc a (44 ∷ 34 ∷ (label ++ 34 ∷ 44 ∷ b)) (41 ∷ [])))

-- so no CR and no blank goes from their ends
pub cr_of : (line xs : List ℕ) → line ≡ xs ++ 41 ∷ [] → without_cr line ≡ line
cr_of line xs is = ap without_cr is ∙ without_cr_same xs ∙ sym is

pub back_of : (line xs : List ℕ) → line ≡ xs ++ 41 ∷ [] → without_back line ≡ line
back_of line xs is = ap without_back is ∙ back_other xs 41 refl ∙ sym is

pub header_cr : (a b c : List ℕ) → without_cr (header_line a b c) ≡ header_line a b c
header_cr a b c = cr_of (header_line a b c) (codes "des (" ++ (a ++ 44 ∷ (b ++ 44 ∷ c))) (header_end a b c)

pub move_cr : (a label b : List ℕ) → without_cr (move_line a label b) ≡ move_line a label b
move_cr a label b = cr_of (move_line a label b) (40 ∷ (a ++ 44 ∷ 34 ∷ (label ++ 34 ∷ 44 ∷ b))) (move_end a label b)

-- they aren't blank
pub header_text_is : (a b c : List ℕ) → is_text (header_line a b c) ≡ true
header_text_is a b c =
    let back : trimmed (header_line a b c) ≡ header_line a b c = back_of (header_line a b c) (codes "des (" ++ (a ++ 44 ∷ (b ++ 44 ∷ c))) (header_end a b c) in
    ap (λ t. has_bytes (trimmed t)) (header_cr a b c) ∙ ap has_bytes back

pub move_text_is : (a label b : List ℕ) → is_text (move_line a label b) ≡ true
move_text_is a label b =
    let back : trimmed (move_line a label b) ≡ move_line a label b = back_of (move_line a label b) (40 ∷ (a ++ 44 ∷ 34 ∷ (label ++ 34 ∷ 44 ∷ b))) (move_end a label b) in
    ap (λ t. has_bytes (trimmed t)) (move_cr a label b) ∙ ap has_bytes back

-- they have no LF
pub header_lacks : (a b c : List ℕ) → AllDigits 10 a → AllDigits 10 b → AllDigits 10 c → Lacks 10 (header_line a b c)
header_lacks a b c da db dc =
    Lacks-append 10 (codes "des (") _ (λ e. omega (arith, e), (λ e. omega (arith, e), (λ e. omega (arith, e), (λ e. omega (arith, e), (λ e. omega (arith, e), tt)))))
    (Lacks-append 10 a _ (Lacks-digits 10 a (omega arith) da) (
      λ e. omega (arith, e),
      Lacks-append 10 b _ (Lacks-digits 10 b (omega arith) db) (
        λ e. omega (arith, e),
        Lacks-append 10 c _ (Lacks-digits 10 c (omega arith) dc) (λ e. omega (arith, e), tt),
      ),
    ))

pub move_lacks : (a label b : List ℕ) → AllDigits 10 a → IsPlain label → AllDigits 10 b → Lacks 10 (move_line a label b)
move_lacks a label b da plain db = (
  λ e. omega (arith, e),
  Lacks-append 10 a _ (Lacks-digits 10 a (omega arith) da) (
    λ e. omega (arith, e),
    (
      λ e. omega (arith, e),
      Lacks-append 10 label _ (Lacks-plain label plain) (
        λ e. omega (arith, e),
        (
          λ e. omega (arith, e),
          Lacks-append 10 b _ (Lacks-digits 10 b (omega arith) db) (λ e. omega (arith, e), tt),
        ),
      ),
    ),
  ),
)

pub IsUtf8-digits : (ds : List ℕ) → AllDigits 10 ds → IsUtf8 ds
IsUtf8-digits ds digits = IsUtf8-from_ascii ds (IsAscii-from_digits ds digits)

-- they are UTF-8, as a byte below 128 may stand before UTF-8
pub IsUtf8-add : (b : ℕ) (bytes : List ℕ) → b < 128 → IsUtf8 bytes → IsUtf8 (b ∷ bytes)
IsUtf8-add b bytes low utf8 = IsUtf8-append (b ∷ []) bytes (IsUtf8-from_ascii (b ∷ []) (IsAscii-from_all (b ∷ []) one)) utf8
  where
    one : All (λ c. c < 128) (b ∷ [])
    one zero d below = low
    one (suc k) d below = absurd (omega (arith, below))

pub header_utf8 : (a b c : List ℕ) → AllDigits 10 a → AllDigits 10 b → AllDigits 10 c → IsUtf8 (header_line a b c)
header_utf8 a b c da db dc =
    let third : IsUtf8 (44 ∷ (c ++ 41 ∷ [])) = IsUtf8-add 44 (c ++ 41 ∷ []) (omega arith) (IsUtf8-append c (41 ∷ []) (IsUtf8-digits c dc) (IsUtf8-add 41 [] (omega arith) IsUtf8-nil)) in
    let second : IsUtf8 (44 ∷ (b ++ 44 ∷ (c ++ 41 ∷ []))) = IsUtf8-add 44 (b ++ 44 ∷ (c ++ 41 ∷ [])) (omega arith) (IsUtf8-append b (44 ∷ (c ++ 41 ∷ [])) (IsUtf8-digits b db) third) in
    let first : IsUtf8 (a ++ 44 ∷ (b ++ 44 ∷ (c ++ 41 ∷ []))) = IsUtf8-append a (44 ∷ (b ++ 44 ∷ (c ++ 41 ∷ []))) (IsUtf8-digits a da) second in
    IsUtf8-add 100 _ (omega arith) (IsUtf8-add 101 _ (omega arith) (IsUtf8-add 115 _ (omega arith) (IsUtf8-add 32 _ (omega arith) (IsUtf8-add 40 _ (omega arith) first))))

pub move_utf8 : (a label b : List ℕ) → AllDigits 10 a → IsUtf8 label → AllDigits 10 b → IsUtf8 (move_line a label b)
move_utf8 a label b da utf8 db =
    let end : IsUtf8 (b ++ 41 ∷ []) = IsUtf8-append b (41 ∷ []) (IsUtf8-digits b db) (IsUtf8-add 41 [] (omega arith) IsUtf8-nil) in
    let back : IsUtf8 (34 ∷ 44 ∷ (b ++ 41 ∷ [])) = IsUtf8-add 34 _ (omega arith) (IsUtf8-add 44 _ (omega arith) end) in
    let middle : IsUtf8 (label ++ 34 ∷ 44 ∷ (b ++ 41 ∷ [])) = IsUtf8-append label (34 ∷ 44 ∷ (b ++ 41 ∷ [])) utf8 back in
    let others : IsUtf8 (44 ∷ 34 ∷ (label ++ 34 ∷ 44 ∷ (b ++ 41 ∷ []))) = IsUtf8-add 44 _ (omega arith) (IsUtf8-add 34 _ (omega arith) middle) in
    IsUtf8-add 40 _ (omega arith) (IsUtf8-append a (44 ∷ 34 ∷ (label ++ 34 ∷ 44 ∷ (b ++ 41 ∷ []))) (IsUtf8-digits a da) others)

-- they are short
pub header_short : (a b c : List ℕ) → length a ≤ 20 → length b ≤ 20 → length c ≤ 20 → length (header_line a b c) ≤ MOST_LINE_BYTES
header_short a b c sa sb sc =
    let third : length (c ++ 41 ∷ []) ≡ length c + 1 = length-append c (41 ∷ []) in
    let second : length (b ++ 44 ∷ (c ++ 41 ∷ [])) ≡ length b + suc (length (c ++ 41 ∷ [])) = length-append b (44 ∷ (c ++ 41 ∷ [])) in
    let first : length (a ++ 44 ∷ (b ++ 44 ∷ (c ++ 41 ∷ []))) ≡ length a + suc (length (b ++ 44 ∷ (c ++ 41 ∷ []))) = length-append a (44 ∷ (b ++ 44 ∷ (c ++ 41 ∷ []))) in
    omega (arith, first, second, third, sa, sb, sc)

pub move_short : (a label b : List ℕ) → length a ≤ 20 → length label ≤ MOST_LABEL_BYTES → length b ≤ 20 → length (move_line a label b) ≤ MOST_LINE_BYTES
move_short a label b sa short sb =
    let third : length (b ++ 41 ∷ []) ≡ length b + 1 = length-append b (41 ∷ []) in
    let second : length (label ++ 34 ∷ 44 ∷ (b ++ 41 ∷ [])) ≡ length label + suc (suc (length (b ++ 41 ∷ []))) = length-append label (34 ∷ 44 ∷ (b ++ 41 ∷ [])) in
    let first : length (a ++ 44 ∷ 34 ∷ (label ++ 34 ∷ 44 ∷ (b ++ 41 ∷ []))) ≡ length a + suc (suc (length (label ++ 34 ∷ 44 ∷ (b ++ 41 ∷ [])))) = length-append a (44 ∷ 34 ∷ (label ++ 34 ∷ 44 ∷ (b ++ 41 ∷ []))) in
    omega (arith, first, second, third, sa, short, sb)
