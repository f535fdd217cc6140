-- Promise: decimals.
use Rattle.std.specs.Prelude.{◌≡◌, ℕ, ◌^◌, ◌<◌, ◌≤◌, List, length}
use Rattle.text_scan.specs.declared.number.TheConstants.{MOST_DIGITS}
use Rattle.std.specs.Str.Parse.{AllDigits, digits_value}

-- the bytes are digits with this value
abbrev pub HasValue : List ℕ → ℕ → Type 0
HasValue bytes value = AllDigits 10 bytes × (digits_value 10 bytes ≡ value)

-- the bytes are a decimal with this value: 1 to `MOST_DIGITS` digits, and the value is below 2^64
pub record IsDecimal (bytes : List ℕ) (value : ℕ) : Type 0 where
  pub some : 0 < length bytes
  pub short : length bytes ≤ MOST_DIGITS
  pub digits : AllDigits 10 bytes
  pub is : digits_value 10 bytes ≡ value
  pub below : value < 2 ^ 64
