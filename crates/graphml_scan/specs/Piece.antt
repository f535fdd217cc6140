-- Promise: white, names, and texts that end at a mark.
use Rattle.std.specs.Prelude.{ℕ, Bool, ◌==◌, ◌||◌, nat_le, List, [], ◌∷◌, length, take, drop, reverse, Option, Some, None, option_map, if◌then◌else◌}
use Rattle.std.specs.Char.{is_ascii_alphabetic, is_ascii_digit}
use Rattle.std.specs.List.{prefix_len}
use Rattle.std.specs.Str.{bytes_eq}
use Rattle.graphml_scan.specs.Many.{Cut}

-- the byte is white: a space, a tab, a CR or an LF
abbrev pub is_white : ℕ → Bool
is_white b = b == 32 || b == 9 || b == 13 || b == 10

-- the bytes without the white at their front
abbrev pub without_white : List ℕ → List ℕ
without_white [] = []
without_white (b ∷ bytes) = if is_white b then without_white bytes else b ∷ bytes

-- the bytes without the white at their back
abbrev pub without_back : List ℕ → List ℕ
without_back bytes = reverse (without_white (reverse bytes))

-- the bytes without the white at both ends
abbrev pub trimmed : List ℕ → List ℕ
trimmed bytes = without_back (without_white bytes)

-- a name may begin with the byte
abbrev pub begins_name : ℕ → Bool
begins_name b = is_ascii_alphabetic b || b == 95 || b == 58 || nat_le 128 b

-- a name may go on with the byte
abbrev pub is_in_name : ℕ → Bool
is_in_name b = begins_name b || is_ascii_digit b || b == 45 || b == 46

-- the name at the front, as long as it goes
abbrev pub name_at : List ℕ → Option (Cut (List ℕ))
name_at [] = None
name_at (b ∷ bytes) =
    if begins_name b then Some (take (prefix_len is_in_name (b ∷ bytes)) (b ∷ bytes), drop (prefix_len is_in_name (b ∷ bytes)) (b ∷ bytes))
    else None

-- the bytes after this byte
abbrev pub after_byte : ℕ → List ℕ → Option (List ℕ)
after_byte mark [] = None
after_byte mark (b ∷ bytes) = if b == mark then Some bytes else None

-- the bytes after this text
abbrev pub after_text : List ℕ → List ℕ → Option (List ℕ)
after_text front bytes = if bytes_eq (take (length front) bytes) front then Some (drop (length front) bytes) else None

-- what stands before the first such byte, and what stands after it
abbrev pub cut_at : ℕ → List ℕ → Option (Cut (List ℕ))
cut_at mark [] = None
cut_at mark (b ∷ bytes) = if b == mark then Some ([], bytes) else option_map (λ cut. (b ∷ cut.0, cut.1)) (cut_at mark bytes)

-- what stands before the first place where this text, which isn't empty, stands, and what stands after the text
abbrev pub cut_text : List ℕ → List ℕ → Option (Cut (List ℕ))
cut_text mark [] = None
cut_text mark (b ∷ bytes) =
    if bytes_eq (take (length mark) (b ∷ bytes)) mark then Some ([], drop (length mark) (b ∷ bytes))
    else option_map (λ cut. (b ∷ cut.0, cut.1)) (cut_text mark bytes)

-- what follows the first colon of a name, or the whole
abbrev pub local_name : List ℕ → List ℕ
local_name name = elim (cut_at 58 name) [ None ↦ name | Some cut ↦ cut.1 ]
