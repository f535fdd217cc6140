-- What is written for pieces of UTF-8 is UTF-8.
use Rattle.std.proofs.Common.{◌≡◌, ◌∙◌, ℕ, suc, ◌<◌, ◌≤◌, Bool, true, ◌&&◌, nat_lt, ltb-true, List, [], ◌∷◌, ◌++◌, append_assoc, append-nil, ap₂, get_or, length, inl, inr, refl, sym, ap, subst, arith, codes}
use Rattle.std.specs.List.{AllByRecursion}
use Rattle.std.specs.Str.{IsUtf8}
use Rattle.std.proofs.lemmas.Bool.{cases_lt, true≢false, and_parts}
use Rattle.std.proofs.lemmas.Str.{IsUtf8-append, IsUtf8-nil, IsUtf8-encode, encode_ascii, inside_one}
use Rattle.text_scan.proofs.CutLaws.{differs}
use lib.Utf8.{scalar, scalars, encode, encodes, low_scalar}
use Rattle.graphml_scan.specs.Piece.{is_white}
use Rattle.graphml_scan.specs.Tag.{Attribute}
use Rattle.graphml_scan.specs.Written.{written_byte, written, Piece, Opens, Whole, Closes, Holds, IsWhite, IsQuoted, AreAttributes, IsPiece, ArePieces}
use Rattle.graphml_scan.proofs.WrittenLaws.{each_byte, own_byte}

abbrev are_ascii : List ℕ → Bool
are_ascii [] = true
are_ascii (x ∷ xs) = nat_lt x 128 && are_ascii xs

ascii_then : (x : ℕ) (xs : List ℕ) → x < 128 → IsUtf8 xs → IsUtf8 (x ∷ xs)
ascii_then x xs small u = IsUtf8-append (x ∷ []) xs (subst IsUtf8 (encode_ascii x small) (IsUtf8-encode x (low_scalar x (omega (arith, small))))) u

pub utf8_ascii : (xs : List ℕ) → are_ascii xs ≡ true → IsUtf8 xs
utf8_ascii [] e = IsUtf8-nil
utf8_ascii (x ∷ xs) e = let p = and_parts (nat_lt x 128) (are_ascii xs) e in ascii_then x xs (ltb-true x 128 p.0) (utf8_ascii xs p.1)

written_append : (xs ys : List ℕ) → written (xs ++ ys) ≡ written xs ++ written ys
written_append [] ys = refl
written_append (x ∷ xs) ys = ap (λ (l : List ℕ). written_byte x ++ l) (written_append xs ys) ∙ sym (append_assoc (written_byte x) (written xs) (written ys))

written_high : (xs : List ℕ) → ((k : ℕ) → k < length xs → 128 ≤ get_or xs k 0) → written xs ≡ xs
written_high [] h = refl
written_high (x ∷ xs) h =
    let high : 128 ≤ x = h 0 (omega arith) in
    ap₂ {A = List ℕ} {B = List ℕ} {C = List ℕ} (λ a b. a ++ b) (own_byte x ((λ e. omega (arith, e, high)), (λ e. omega (arith, e, high)), (λ e. omega (arith, e, high)), (λ e. omega (arith, e, high)))) (written_high xs (λ k below. h (suc k) (omega (arith, below))))

low_byte : (b : ℕ) → b < 128 → IsUtf8 (written_byte b)
low_byte b small = each_byte (λ b. b < 128 → IsUtf8 (written_byte b)) (λ h. utf8_ascii (codes "&lt;") refl) (λ h. utf8_ascii (codes "&amp;") refl) (λ h. utf8_ascii (codes "&quot;") refl) (λ h. utf8_ascii (codes "&apos;") refl) (λ b own h. rw (own_byte b own) (ascii_then b [] h IsUtf8-nil)) b small

one_character : (c : ℕ) → scalar c ≡ true → IsUtf8 (written (encode c))
one_character c ok = elim (cases_lt c 128) [
  | inl small ↦ rw (encode_ascii c small, append-nil) (low_byte c small)
  | inr big ↦
      let high : (k : ℕ) → k < length (encode c) → 128 ≤ get_or (encode c) k 0 = λ k below. elim (cases_lt (get_or (encode c) k 0) 128) [
        | inl low ↦ absurd (omega (arith, inside_one c [] (encode c) k (sym (append-nil (encode c))) below low, big))
        | inr h ↦ h
      ] in
      subst IsUtf8 (sym (written_high (encode c) high)) (IsUtf8-encode c ok)
]

all_characters : (cs : List ℕ) → scalars cs ≡ true → IsUtf8 (written (encodes cs))
all_characters [] e = IsUtf8-nil
all_characters (c ∷ cs) e =
    let p = and_parts (scalar c) (scalars cs) e in
    subst IsUtf8 (sym (written_append (encode c) (encodes cs))) (IsUtf8-append (written (encode c)) (written (encodes cs)) (one_character c p.0) (all_characters cs p.1))

pub utf8_written : (text : List ℕ) → IsUtf8 text → IsUtf8 (written text)
utf8_written text u = subst (λ (l : List ℕ). IsUtf8 (written l)) u.1.1 (all_characters u.0 u.1.0)

utf8_white : (bytes : List ℕ) → IsWhite bytes → IsUtf8 bytes
utf8_white [] white = IsUtf8-nil
utf8_white (b ∷ bytes) (first, others) = ascii_then b bytes (small b first) (utf8_white bytes others)
  where
    small : (b : ℕ) → is_white b ≡ true → b < 128
    small b white = elim (cases_lt b 128) [
      | inl low ↦ low
      | inr high ↦ absurd (true≢false (sym white ∙ rw (differs b 32 (λ e. omega (arith, e, high)), differs b 9 (λ e. omega (arith, e, high)), differs b 13 (λ e. omega (arith, e, high)), differs b 10 (λ e. omega (arith, e, high))) refl))
    ]

-- the texts in the piece are UTF-8
abbrev pub AreUtf8 : List Attribute → Type 0
AreUtf8 attributes = AllByRecursion (λ (a : Attribute). IsUtf8 a.name × IsUtf8 a.value) attributes

abbrev pub HasUtf8 : Piece → Type 0
HasUtf8 (Opens name attributes) = IsUtf8 name × AreUtf8 attributes
HasUtf8 (Whole name attributes) = IsUtf8 name × AreUtf8 attributes
HasUtf8 (Closes name) = IsUtf8 name
HasUtf8 (Holds text) = IsUtf8 text

utf8_quoted : (text value : List ℕ) → IsUtf8 text → IsQuoted text value → IsUtf8 value
utf8_quoted text value u (inl is) = rw is (IsUtf8-append (34 ∷ written text) (34 ∷ []) (ascii_then 34 (written text) (omega arith) (utf8_written text u)) (utf8_ascii (34 ∷ []) refl))
utf8_quoted text value u (inr is) = rw is (IsUtf8-append (39 ∷ written text) (39 ∷ []) (ascii_then 39 (written text) (omega arith) (utf8_written text u)) (utf8_ascii (39 ∷ []) refl))

utf8_attributes : (attributes : List Attribute) (bytes : List ℕ) → AreUtf8 attributes → AreAttributes attributes bytes → IsUtf8 bytes
utf8_attributes [] bytes u is = rw is IsUtf8-nil
utf8_attributes (a ∷ attributes) bytes ((name, text), others) (value, rest, quoted, are, is) =
    rw is (IsUtf8-append ((32 ∷ a.name) ++ 61 ∷ value) rest
    (IsUtf8-append (32 ∷ a.name) (61 ∷ value) (ascii_then 32 a.name (omega arith) name) (ascii_then 61 value (omega arith) (utf8_quoted a.value value text quoted)))
    (utf8_attributes attributes rest others are))

utf8_piece : (p : Piece) (bytes : List ℕ) → HasUtf8 p → IsPiece p bytes → IsUtf8 bytes
utf8_piece (Opens name attributes) bytes (named, others) (inner, are, is) = rw is (IsUtf8-append ((60 ∷ name) ++ inner) (62 ∷ []) (IsUtf8-append (60 ∷ name) inner (ascii_then 60 name (omega arith) named) (utf8_attributes attributes inner others are)) (utf8_ascii (62 ∷ []) refl))
utf8_piece (Whole name attributes) bytes (named, others) (inner, are, is) = rw is (IsUtf8-append ((60 ∷ name) ++ inner) (47 ∷ 62 ∷ []) (IsUtf8-append (60 ∷ name) inner (ascii_then 60 name (omega arith) named) (utf8_attributes attributes inner others are)) (utf8_ascii (47 ∷ 62 ∷ []) refl))
utf8_piece (Closes name) bytes named is = rw is (IsUtf8-append (60 ∷ 47 ∷ name) (62 ∷ []) (ascii_then 60 (47 ∷ name) (omega arith) (ascii_then 47 name (omega arith) named)) (utf8_ascii (62 ∷ []) refl))
utf8_piece (Holds text) bytes u is = rw is (utf8_written text u)

pub utf8_pieces : (pieces : List Piece) (bytes : List ℕ) → AllByRecursion HasUtf8 pieces → ArePieces pieces bytes → IsUtf8 bytes
utf8_pieces [] bytes u white = utf8_white bytes white
utf8_pieces (p ∷ pieces) bytes (first, others) (white, piece, rest, blank, is, are, whole) =
    rw whole (IsUtf8-append (white ++ piece) rest (IsUtf8-append white piece (utf8_white white blank) (utf8_piece p piece first is)) (utf8_pieces pieces rest others are))
