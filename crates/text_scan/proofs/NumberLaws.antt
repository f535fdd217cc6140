-- Laws on decimals, digit by digit.
use Rattle.std.proofs.Common.{◌≡◌, ◌∙◌, ℕ, ◌+◌, ◌*◌, ◌^◌, ◌<◌, ◌≤◌, List, length, take, get_or, refl, sym, arith}
use Rattle.std.specs.Char.{digit_value}
use Rattle.std.specs.Str.Parse.{AllDigits, digits_value}
use Rattle.std.proofs.lemmas.Int.Digits.{digits_value_more, digits_value-lt}
use Rattle.std.proofs.Math.Nat.{pow-le-pow_right}
use Rattle.std.proofs.lemmas.List.{length-take}
use Rattle.std.proofs.lemmas.Str.Parse.{digits_value-take-le, digit_at}
use Rattle.std.proofs.lemmas.Str.{digit_value_digit}

-- each byte of digits is a digit
pub digit_low : (ds : List ℕ) (i : ℕ) → i < length ds → AllDigits 10 ds → digit_value (get_or ds i 0) < 10
digit_low ds i inside digits =
    let range = digit_at ds i digits inside in
    let value : digit_value (get_or ds i 0) + 48 ≡ get_or ds i 0 = digit_value_digit (get_or ds i 0) range in
    omega (arith, value, range)

-- one digit more
pub value_more : (ds : List ℕ) (i value digit next : ℕ) → i < length ds → digits_value 10 (take i ds) ≡ value → digit_value (get_or ds i 0) ≡ digit → next ≡ value * 10 + digit → digits_value 10 (take (i + 1) ds) ≡ next
value_more ds i value digit next inside before last is = digits_value_more 10 ds i inside ∙ rw (before, last) (sym is)

-- the digits have at least the value of their front
pub value_below : (ds : List ℕ) (i value digit most : ℕ) → i < length ds → digits_value 10 (take i ds) ≡ value → digit_value (get_or ds i 0) ≡ digit → most ≤ value * 10 + digit → most ≤ digits_value 10 ds
value_below ds i value digit most inside before last over =
    let front : digits_value 10 (take (i + 1) ds) ≡ value * 10 + digit = value_more ds i value digit (value * 10 + digit) inside before last refl in
    let less : digits_value 10 (take (i + 1) ds) ≤ digits_value 10 ds = digits_value-take-le 10 ds (i + 1) (omega arith) in
    omega (arith, front, less, over)

-- digits that are few enough have a value that fits, with one more too
pub few_fit : (ds : List ℕ) (i value digit : ℕ) → i < length ds → length ds ≤ 19 → AllDigits 10 (take i ds) → digits_value 10 (take i ds) ≡ value → digit < 10 → value * 10 + digit < 2 ^ 64
few_fit ds i value digit inside few all is low =
    let front : digits_value 10 (take i ds) < 10 ^ length (take i ds) = digits_value-lt 10 (take i ds) all in
    let count : length (take i ds) ≤ 18 = let l = length-take i ds in omega (arith, l, inside, few) in
    let most : 10 ^ length (take i ds) ≤ 10 ^ 18 = pow-le-pow_right (omega arith) count in
    omega (arith, front, most, is, low)
