-- Promise: the forms of a header and of a move in an Aldebaran file.
use Rattle.std.specs.Prelude.{◌≡◌, ℕ, ◌-◌, ◌<◌, Bool, ◌==◌, false, nat_lt, List, [], ◌∷◌, ◌++◌, length, take, drop, Option, Some, None, if◌then◌else◌, codes, slice_index_or as get_or}
use Rattle.std.specs.Str.{bytes_eq}
use Rattle.text_scan.specs.Decimal.{IsDecimal}
use Rattle.text_scan.specs.Blank.{trimmed}
use Rattle.text_scan.specs.Cut.{IsCut, IsLastCut}
use Rattle.text_scan.specs.Listing.{IsPlain}
use Rattle.aut_text.specs.declared.header.Header.{Header}

-- the bytes are `(` and the number, with blanks before and after each
pub record IsOpening (bytes : List ℕ) (n : ℕ) : Type 0 where
  pub digits : List ℕ
  pub bracket : trimmed bytes ≡ 40 ∷ digits
  pub number : IsDecimal (trimmed digits) n

-- the bytes are the number and `)`, with blanks before and after each
pub record IsClosing (bytes : List ℕ) (n : ℕ) : Type 0 where
  pub digits : List ℕ
  pub bracket : trimmed bytes ≡ digits ++ 41 ∷ []
  pub number : IsDecimal (trimmed digits) n

-- the bytes are `des`, `(` and the number, with blanks before and after each
pub record IsBeginning (bytes : List ℕ) (n : ℕ) : Type 0 where
  pub opening : List ℕ
  pub word : trimmed bytes ≡ codes "des" ++ opening
  pub number : IsOpening opening n

-- the text is `des` `(` start `,` transitions `,` states `)`, with blanks before and after each part
pub record IsHeader (text : List ℕ) (h : Header) : Type 0 where
  pub front : List ℕ
  pub others : List ℕ
  pub middle : List ℕ
  pub back : List ℕ
  pub first_comma : IsCut 44 text front others
  pub second_comma : IsCut 44 others middle back
  pub start : IsBeginning front h.start
  pub transitions : IsDecimal (trimmed middle) h.transitions
  pub states : IsClosing back h.states

-- the text begins and ends with a quote, and these are two
abbrev pub is_quoted : List ℕ → Bool
is_quoted text = if nat_lt (length text) 2 then false else if get_or text 0 0 == 34 then get_or text (length text - 1) 0 == 34 else false

-- the text without one pair of quotes around it
abbrev pub unquoted : List ℕ → List ℕ
unquoted text = if is_quoted text then take (length text - 2) (drop 1 text) else text

-- the label that a move's line has between its first and its last comma
abbrev pub label_in : List ℕ → List ℕ
label_in middle = unquoted (trimmed middle)

-- a move as its line writes it
pub record Written : Type 0 where
  pub from : ℕ
  pub label : List ℕ
  pub to : ℕ

-- the label has some bytes, and none below 32
abbrev pub HasLabel : List ℕ → Type 0
HasLabel label = (0 < length label) × IsPlain label

-- the text is `(` from `,` label `,` to `)`, with blanks before and after each part; the label stands between the first and
-- the last comma, in quotes or without
pub record IsMove (text : List ℕ) (w : Written) : Type 0 where
  pub front : List ℕ
  pub others : List ℕ
  pub middle : List ℕ
  pub back : List ℕ
  pub first_comma : IsCut 44 text front others
  pub last_comma : IsLastCut 44 others middle back
  pub from : IsOpening front w.from
  pub label : w.label ≡ label_in middle
  pub has : HasLabel w.label
  pub to : IsClosing back w.to

-- the label that is seen: none where the text is `i` or `tau`
abbrev pub visible : List ℕ → Option (List ℕ)
visible label = if bytes_eq label (codes "i") then None else if bytes_eq label (codes "tau") then None else Some label
