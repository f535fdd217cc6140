-- Promise: references, and the texts in which they stand.
use Rattle.std.specs.Prelude.{ℕ, ◌+◌, ◌*◌, Bool, true, false, ◌==◌, nat_lt, List, [], ◌∷◌, Option, Some, None, if◌then◌else◌, codes}
use Rattle.std.specs.Char.{encode_utf8, is_digit, digit_value}
use Rattle.std.specs.List.{concat, list_any}
use Rattle.std.specs.Str.{bytes_eq}
use Rattle.graphml_scan.specs.Many.{Cut, ◌>>=◌, many}
use Rattle.graphml_scan.specs.Piece.{cut_at}

-- a `&` is among the bytes
abbrev pub has_ampersand : List ℕ → Bool
has_ampersand text = list_any (λ b. b == 38) text

-- the number is a Unicode scalar value other than 0
abbrev pub is_character : ℕ → Bool
is_character n =
    if n == 0 then false
    else (if nat_lt n 0xD800 then true
    else (if nat_lt n 0xE000 then false
    else nat_lt n 0x110000))

-- the number, if it is that of a character
abbrev pub as_character : ℕ → Option ℕ
as_character n = if is_character n then Some n else None

-- the number that the digits write when they follow those of n, if all are digits
abbrev pub number_from : ℕ → ℕ → List ℕ → Option ℕ
number_from base n [] = Some n
number_from base n (d ∷ digits) = if is_digit d base then number_from base (n * base + digit_value d) digits else None

-- the number, if there is one and it is that of a character
abbrev pub if_character : Option ℕ → Option ℕ
if_character n = n >>= as_character

-- the character whose number the digits write, of which there is one at least
abbrev pub character_of : ℕ → List ℕ → Option ℕ
character_of base [] = None
character_of base (d ∷ digits) = if_character (number_from base 0 (d ∷ digits))

-- the character of what stands behind `#`: `x` and hexadecimal digits, or decimal ones
abbrev pub numbered : List ℕ → Option ℕ
numbered [] = None
numbered (b ∷ digits) = if b == 120 then character_of 16 digits else character_of 10 (b ∷ digits)

-- the character of a name
abbrev pub named : List ℕ → Option ℕ
named name =
    if bytes_eq name (codes "lt") then Some 60
    else (if bytes_eq name (codes "gt") then Some 62
    else (if bytes_eq name (codes "amp") then Some 38
    else (if bytes_eq name (codes "apos") then Some 39
    else (if bytes_eq name (codes "quot") then Some 34
    else None))))

-- the character of what stands between `&` and `;`
abbrev pub referred : List ℕ → Option ℕ
referred [] = None
referred (b ∷ name) = if b == 35 then numbered name else named (b ∷ name)

-- what the reference stands for whose `&` stands before the bytes
unfoldable pub reference_at : List ℕ → Option (Cut (List ℕ))
reference_at bytes = do
  cut ← cut_at 59 bytes
  character ← referred cut.0
  Some (encode_utf8 character, cut.1)

-- what the front of a text stands for: a reference, or a byte for itself
abbrev pub piece_at : List ℕ → Option (Cut (List ℕ))
piece_at [] = None
piece_at (b ∷ bytes) = if b == 38 then reference_at bytes else Some (b ∷ [], bytes)

-- the pieces joined, if nothing is left after them
abbrev pub joined : Cut (List (List ℕ)) → Option (List ℕ)
joined (pieces, []) = Some (concat pieces)
joined (pieces, b ∷ rest) = None

-- what a text stands for, references and all
unfoldable pub resolved : List ℕ → Option (List ℕ)
resolved bytes = joined (many piece_at bytes)
