-- What is read of white, of pieces and of texts.
use Rattle.std.proofs.Common.{◌≡◌, ◌∙◌, ℕ, ◌-◌, ◌<◌, true, false, List, [], ◌∷◌, ◌++◌, append_assoc, length, reverse, Some, Ok, inl, inr, refl, sym, ap, arith}
use Rattle.std.proofs.lemmas.Bool.{cases_Bool, true≢false}
use Rattle.std.proofs.lemmas.List.{reverse-append, append-nil}
use Rattle.graphml_scan.specs.Piece.{is_white, without_white, without_back, trimmed}
use Rattle.graphml_scan.specs.Tag.{Attribute}
use Rattle.graphml_scan.specs.Token.{Token, Byte, Text, Start, End, token_at}
use Rattle.graphml_text.specs.Reading.{Reading}
use Rattle.graphml_text.specs.Element.{step}
use Rattle.graphml_text.specs.Document.{read_on}
use Rattle.graphml_text.proofs.RunLaws.{read_on-step}
use Rattle.graphml_scan.proofs.LengthLaws.{white_le}
use Rattle.graphml_scan.specs.Written.{written_byte, written, Piece, Opens, Whole, Closes, Holds, IsWhite, IsPiece, ArePieces}
use Rattle.graphml_scan.proofs.WrittenLaws.{is_name, is_tag, token_opens, token_whole, token_closes, token_byte, token_own}

-- ---- white

white_token : (b : ℕ) (rest : List ℕ) → is_white b ≡ true → token_at (b ∷ rest) ≡ Some (Byte b, rest)
white_token b rest white = token_own b rest (not 60 refl, not 38 refl, not 34 refl, not 39 refl)
  where
    not : (c : ℕ) → is_white c ≡ false → b ≡ c → ⊥
    not c other e = true≢false (sym white ∙ ap is_white e ∙ other)

-- white that is passed over
abbrev pub Passes : Reading → Type 0
Passes m = (at b : ℕ) → is_white b ≡ true → step at m (Byte b) ≡ Ok m

pub white_along : (size : ℕ) (m : Reading) (white rest : List ℕ) → Passes m → IsWhite white → read_on size m (white ++ rest) ≡ read_on size m rest
white_along size m [] rest passes white = refl
white_along size m (b ∷ white) rest passes (first, others) =
    read_on-step size m m (b ∷ (white ++ rest)) (Byte b) (white ++ rest) (white_token b (white ++ rest) first) (passes (size - length (b ∷ (white ++ rest))) b first)
    ∙ white_along size m white rest passes others

-- ---- pieces

-- what is read after the first piece
abbrev pub Then : ℕ → Reading → List ℕ → (ℕ → Reading) → List Piece → Type 0
Then size m bytes n pieces = (at : ℕ) × (rest : List ℕ) × ArePieces pieces rest × (read_on size m bytes ≡ read_on size (n at) rest)

token_along : (size : ℕ) (m : Reading) (n : ℕ → Reading) (t : Token) (p : Piece) (pieces : List Piece) (bytes : List ℕ) → Passes m → ((piece rest : List ℕ) → IsPiece p piece → token_at (piece ++ rest) ≡ Some (t, rest)) → ((at : ℕ) → step at m t ≡ Ok (n at)) → ArePieces (p ∷ pieces) bytes → Then size m bytes n pieces
token_along size m n t p pieces bytes passes found does (white, piece, rest, blank, is, are, whole) =
    let at : ℕ = size - length (piece ++ rest) in
    let split : bytes ≡ white ++ (piece ++ rest) = rw whole (append_assoc white piece rest) in
    (at, rest, are, rw split (white_along size m white (piece ++ rest) passes blank ∙ read_on-step size m (n at) (piece ++ rest) t rest (found piece rest is) (does at)))

pub opens_along : (size : ℕ) (m : Reading) (n : ℕ → Reading) (name : List ℕ) (attributes : List Attribute) (pieces : List Piece) (bytes : List ℕ) → Passes m → is_tag name attributes ≡ true → ((at : ℕ) → step at m (Start (record { name = name; attributes = attributes; whole = false })) ≡ Ok (n at)) → ArePieces (Opens name attributes ∷ pieces) bytes → Then size m bytes n pieces
opens_along size m n name attributes pieces bytes passes is does are = token_along size m n (Start (record { name = name; attributes = attributes; whole = false })) (Opens name attributes) pieces bytes passes (λ piece rest. token_opens name attributes piece rest is) does are

pub whole_along : (size : ℕ) (m : Reading) (n : ℕ → Reading) (name : List ℕ) (attributes : List Attribute) (pieces : List Piece) (bytes : List ℕ) → Passes m → is_tag name attributes ≡ true → ((at : ℕ) → step at m (Start (record { name = name; attributes = attributes; whole = true })) ≡ Ok (n at)) → ArePieces (Whole name attributes ∷ pieces) bytes → Then size m bytes n pieces
whole_along size m n name attributes pieces bytes passes is does are = token_along size m n (Start (record { name = name; attributes = attributes; whole = true })) (Whole name attributes) pieces bytes passes (λ piece rest. token_whole name attributes piece rest is) does are

pub closes_along : (size : ℕ) (m : Reading) (n : ℕ → Reading) (name : List ℕ) (pieces : List Piece) (bytes : List ℕ) → Passes m → is_name name ≡ true → ((at : ℕ) → step at m (End name) ≡ Ok (n at)) → ArePieces (Closes name ∷ pieces) bytes → Then size m bytes n pieces
closes_along size m n name pieces bytes passes is does are = token_along size m n (End name) (Closes name) pieces bytes passes (λ piece rest. token_closes name piece rest is) does are

-- ---- text that counts

-- the reading with this direct text of the innermost element
abbrev pub Takes : (List ℕ → Reading) → Type 0
Takes f = ((at b : ℕ) (t : List ℕ) → step at (f t) (Byte b) ≡ Ok (f (t ++ b ∷ []))) × ((at : ℕ) (s t : List ℕ) → step at (f t) (Text s) ≡ Ok (f (t ++ s)))

white_taken : (size : ℕ) (f : List ℕ → Reading) (white rest t : List ℕ) → Takes f → IsWhite white → read_on size (f t) (white ++ rest) ≡ read_on size (f (t ++ white)) rest
white_taken size f [] rest t takes white = rw (append-nil t) refl
white_taken size f (b ∷ white) rest t takes (first, others) =
    read_on-step size (f t) (f (t ++ b ∷ [])) (b ∷ (white ++ rest)) (Byte b) (white ++ rest) (white_token b (white ++ rest) first) (takes.0 (size - length (b ∷ (white ++ rest))) b t)
    ∙ white_taken size f white rest (t ++ b ∷ []) takes others
    ∙ rw (append_assoc t (b ∷ []) white) refl

text_taken : (size : ℕ) (f : List ℕ → Reading) (text rest t : List ℕ) → Takes f → read_on size (f t) (written text ++ rest) ≡ read_on size (f (t ++ text)) rest
text_taken size f [] rest t takes = rw (append-nil t) refl
text_taken size f (b ∷ text) rest t takes =
    let split : written (b ∷ text) ++ rest ≡ written_byte b ++ (written text ++ rest) = append_assoc (written_byte b) (written text) rest in
    let at : ℕ = size - length (written_byte b ++ (written text ++ rest)) in
    let one : read_on size (f t) (written_byte b ++ (written text ++ rest)) ≡ read_on size (f (t ++ b ∷ [])) (written text ++ rest) = elim (token_byte b (written text ++ rest)) [
      | inl own ↦ read_on-step size (f t) (f (t ++ b ∷ [])) (written_byte b ++ (written text ++ rest)) (Byte b) (written text ++ rest) own (takes.0 at b t)
      | inr told ↦ read_on-step size (f t) (f (t ++ b ∷ [])) (written_byte b ++ (written text ++ rest)) (Text (b ∷ [])) (written text ++ rest) told (takes.1 at (b ∷ []) t)
    ] in
    rw split one ∙ text_taken size f text rest (t ++ b ∷ []) takes ∙ rw (append_assoc t (b ∷ []) text) refl

-- ---- texts without white at their ends

white_gone : (white rest : List ℕ) → IsWhite white → without_white (white ++ rest) ≡ without_white rest
white_gone [] rest white = refl
white_gone (b ∷ white) rest (first, others) = rw first (white_gone white rest others)

white_append : (xs ys : List ℕ) → IsWhite xs → IsWhite ys → IsWhite (xs ++ ys)
white_append [] ys one other = other
white_append (b ∷ xs) ys (first, others) other = (first, white_append xs ys others other)

white_back : (xs : List ℕ) → IsWhite xs → IsWhite (reverse xs)
white_back [] white = white
white_back (b ∷ xs) (first, others) = rw (reverse-append (b ∷ []) xs) (white_append (reverse xs) (b ∷ []) (white_back xs others) (first, tt))

starts_dark : (b : ℕ) (text : List ℕ) → without_white (b ∷ text) ≡ b ∷ text → is_white b ≡ false
starts_dark b text front = elim (cases_Bool (is_white b)) [
  | inr dark ↦ dark
  | inl white ↦
      let gone : without_white text ≡ b ∷ text = rw white at front in
      absurd (omega (arith, white_le text, ap (λ (t : List ℕ). length t) gone))
]

-- a text with white around it
pub trimmed_text : (before text after : List ℕ) → IsWhite before → IsWhite after → 0 < length text → without_white text ≡ text → without_back text ≡ text → trimmed ((before ++ text) ++ after) ≡ text
trimmed_text before [] after w1 w2 some front back = absurd (omega (arith, some))
trimmed_text before (b ∷ text) after w1 w2 some front back =
    let dark : is_white b ≡ false = starts_dark b text front in
    let one : without_white ((before ++ b ∷ text) ++ after) ≡ (b ∷ text) ++ after = rw (append_assoc before (b ∷ text) after) (white_gone before ((b ∷ text) ++ after) w1 ∙ rw dark refl) in
    rw one (rw (reverse-append (b ∷ text) after) (rw (white_gone (reverse after) (reverse (b ∷ text)) (white_back after w2)) back))

-- an element with text: its text, and its end
pub data_along : (size : ℕ) (f : List ℕ → Reading) (n : Reading) (text name : List ℕ) (pieces : List Piece) (bytes : List ℕ) → Takes f → is_name name ≡ true → 0 < length text → without_white text ≡ text → without_back text ≡ text → ((at : ℕ) (t : List ℕ) → trimmed t ≡ text → step at (f t) (End name) ≡ Ok n) → ArePieces (Holds text ∷ Closes name ∷ pieces) bytes → Then size (f []) bytes (λ _. n) pieces
data_along size f n text name pieces bytes takes is some front back ends (before, piece, others, w1, is_text, (after, closing, rest, w2, is_end, are, more), whole) =
    let at : ℕ = size - length (closing ++ rest) in
    let split : bytes ≡ before ++ (written text ++ (after ++ (closing ++ rest))) = rw (whole, more, is_text) (simp append_assoc refl) in (
      at,
      rest,
      are,
      rw split (
          white_taken size f before (written text ++ (after ++ (closing ++ rest))) [] takes w1
          ∙ text_taken size f text (after ++ (closing ++ rest)) before takes
          ∙ white_taken size f after (closing ++ rest) (before ++ text) takes w2
          ∙ read_on-step size (f ((before ++ text) ++ after)) n (closing ++ rest) (End name) rest (token_closes name closing rest is is_end) (ends at ((before ++ text) ++ after) (trimmed_text before text after w1 w2 some front back))),
    )
