-- Laws on numbers as they are written.
use Rattle.std.proofs.Common.{◌≡◌, ◌≢◌, ◌∙◌, ℕ, ◌^◌, ◌<◌, true, false, List, [], ◌∷◌, length, get_or, inl, inr, refl, sym, arith, decimal}
use Rattle.std.specs.Str.Parse.{AllDigits, digits_value}
use Rattle.std.proofs.lemmas.Bool.{cases_eq, false≢true}
use Rattle.std.proofs.lemmas.Fmt.{digits_decimal, digits_value-decimal, decimal-digits_value, decimal_nonempty, decimal_digit, first_decimal, length-decimal-le}
use Rattle.std.proofs.lemmas.Str.Parse.{IsNumeralModel, numerals_by_value, tells_digits, digit_from_value}
use Rattle.std.proofs.lemmas.Bool.{cases_lt}
use Rattle.text_scan.specs.Cut.{Lacks}
use Rattle.text_scan.specs.Decimal.{IsDecimal}

-- digits and their value
own : IsNumeralModel (AllDigits 10) (digits_value 10)
own = numerals_by_value (AllDigits 10) tells_digits

-- what is written of a number is a decimal of it
pub decimal_is : (n : ℕ) → n < 2 ^ 32 → IsDecimal (decimal n) n
decimal_is n low = record {
  some = decimal_nonempty n (omega (arith, low));
  short = length-decimal-le 20 n (omega arith) (omega (arith, low)) (omega (arith, low));
  digits = digits_decimal own n (omega (arith, low));
  is = digits_value-decimal own n (omega (arith, low));
  below = omega (arith, low);
}

-- a text has one value
pub value_once : (text : List ℕ) (m n : ℕ) → n < 2 ^ 32 → IsDecimal text m → text ≡ decimal n → m ≡ n
value_once text m n low is e = sym is.is ∙ (rw e (digits_value-decimal own n (omega (arith, low))))

-- what is written of a number has no needless zero
pub no_zero : (n : ℕ) → n < 2 ^ 32 → (get_or (decimal n) 0 0 ≡ 48) × (length (decimal n) ≢ 1) → ⊥
no_zero n low (zeros, long) = elim (cases_lt 0 n) [
  | inl more ↦ let first : 48 < get_or (decimal n) 0 0 = first_decimal n more (omega (arith, low)) in omega (arith, first, zeros)
  | inr none ↦ let is : n ≡ 0 = omega (arith, none) in long (rw (is, decimal_digit 0 (omega arith)) refl)
]

-- digits without a needless zero are what is written of their value
pub written : (text : List ℕ) (n : ℕ) → IsDecimal text n → ((get_or text 0 0 ≡ 48) × (length text ≢ 1) → ⊥) → text ≡ decimal n
written text n is lean = rw (sym (is.is)) (sym (decimal-digits_value own text is.digits is.some front (rw (is.is) (is.below))))
  where
    front : get_or text 0 0 ≡ 48 → length text ≡ 1
    front zeros = elim (cases_eq (length text) 1) [
      | inl one ↦ one
      | inr other ↦ absurd (lean (zeros, other))
    ]

-- digits have no byte below 48
pub Lacks-digits : (mark : ℕ) (ds : List ℕ) → mark < 48 → AllDigits 10 ds → Lacks mark ds
Lacks-digits mark [] low digits = tt
Lacks-digits mark (c ∷ ds) low digits = ((λ same. let range = digit_from_value c digits.0 in omega (arith, range, low, same)), Lacks-digits mark ds low digits.1)

-- what is written of a number has no byte below 48
pub Lacks-decimal : (mark n : ℕ) → mark < 48 → n < 2 ^ 32 → Lacks mark (decimal n)
Lacks-decimal mark n low small = Lacks-digits mark (decimal n) low (digits_decimal own n (omega (arith, small)))

-- a test that answers true tells what holds, and one that answers false what doesn't
pub holds : {P : Type 0} → P → (true ≡ true → P) × (P → true ≡ true)
holds p = (λ t. p, λ q. refl)

pub fails : {P : Type 0} → (P → ⊥) → (false ≡ true → P) × (P → false ≡ true)
fails not = (λ t. absurd (false≢true t), λ p. absurd (not p))
