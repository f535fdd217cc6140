-- Promise: what may stand as the value of an option, and as a file.
use Rattle.std.specs.Prelude.{ℕ, ◌^◌, ◌==◌, ◌&&◌, ◌||◌, Bool, true, false, not, List, [], ◌∷◌, length, codes, if◌then◌else◌, nat_le, nat_lt, is_some, Option, Some, None, option_and_then}
use Rattle.std.specs.Char.{digit_value}
use Rattle.std.specs.List.{list_all}
use Rattle.std.specs.Str.{bytes_eq}
use Rattle.std.specs.Str.Parse.{digits_value}
use Rattle.torx_words.specs.declared.form.ValueKind.{ValueKind}
use Rattle.torx_words.specs.declared.form.ValueKind.TheVariants.{Flag, Marks, Divergence, Name, Number}

-- the text can name a file or an address: it isn't empty and doesn't begin with `-`
abbrev pub is_name : List ℕ → Bool
is_name [] = false
is_name (b ∷ bytes) = not (b == 45)

-- the number of a text of 1 to 20 digits, where it is below 2^64
abbrev pub decimal_of : List ℕ → Option ℕ
decimal_of text =
    if (nat_lt 0 (length text) && nat_le (length text) 20) && (list_all (λ b. nat_lt (digit_value b) 10) text && nat_lt (digits_value 10 text) (2 ^ 64))
    then Some (digits_value 10 text) else None

-- the number of a text, where it is from `least` to `most`
abbrev pub number_in : ℕ → ℕ → List ℕ → Option ℕ
number_in least most text = option_and_then (λ n. if nat_le least n && nat_le n most then Some n else None) (decimal_of text)

-- the text can stand as a value of this kind; a flag has no value
abbrev pub is_value : ValueKind → List ℕ → Bool
is_value Flag text = false
is_value Marks text = bytes_eq text (codes "prefix") || bytes_eq text (codes "suffix")
is_value Divergence text = bytes_eq text (codes "refuse") || bytes_eq text (codes "quiet")
is_value Name text = is_name text
is_value (Number least most) text = is_some (number_in least most text)

-- the option has no value, or its value can stand
abbrev pub may_stand : ValueKind → Option (List ℕ) → Bool
may_stand kind None = true
may_stand kind (Some text) = is_value kind text
