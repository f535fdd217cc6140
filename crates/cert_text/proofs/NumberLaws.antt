-- Laws on numbers of any size.
use Rattle.std.proofs.Common.{◌≡◌, ◌∙◌, ℕ, zero, suc, ◌+◌, ◌*◌, ◌^◌, ◌<◌, ◌≤◌, Bool, true, false, ◌&&◌, ◌==◌, List, [], ◌∷◌, length, get_or, inl, inr, refl, sym, ap, subst, arith, decimal, Option, Some, None, MatchOption}
use Rattle.std.specs.Char.{digit_value, is_ascii_digit}
use Rattle.std.specs.List.{list_all}
use Rattle.std.specs.Str.{all_ascii_digits}
use Rattle.std.specs.Str.Parse.{AllDigits, digits_value, digits_value_after}
use Rattle.std.specs.Ordering.{nat_cmp, MatchOrdering}
use Rattle.std.specs.Cmp.{nat_cmp_is}
use Rattle.std.specs.Cmp.Lexicographic.{slice_cmp}
use Rattle.std.specs.declared.cmp.Ordering.{Ordering}
use Rattle.std.specs.declared.cmp.Ordering.TheVariants.{Less, Equal, Greater}
use Rattle.std.proofs.Math.Nat.{pow-suc, mul_assoc, add-mul, mul-le-mul_right}
use Rattle.std.proofs.lemmas.Bool.{cases_lt, cases_eq, false≢true}
use Rattle.std.proofs.lemmas.Bool.Decides.{Decides-eqb}
use Rattle.std.proofs.lemmas.Fmt.{digits_decimal, digits_value-decimal, decimal-digits_value, decimal_nonempty, decimal_digit, first_decimal}
use Rattle.std.proofs.lemmas.Int.Digits.{digits_value-lt}
use Rattle.std.proofs.lemmas.Str.{digit_value_digit}
use Rattle.std.proofs.lemmas.Str.Parse.{IsNumeralModel, numerals_by_value, tells_digits, tells_all_ascii_digits, digit_from_value}
use Rattle.text_scan.specs.Cut.{Lacks}
use Rattle.text_scan.specs.Decimal.{IsDecimal}
use Rattle.cert_text.specs.Numbers.{IsNumber, value_of}

-- digits and their value
own : IsNumeralModel (AllDigits 10) (digits_value 10)
own = numerals_by_value (AllDigits 10) tells_digits

-- the same by the test of each byte
tested : IsNumeralModel (λ ds. all_ascii_digits ds ≡ true) (digits_value 10)
tested = numerals_by_value (λ ds. all_ascii_digits ds ≡ true) tells_all_ascii_digits

-- two ways to test each byte
all_tests : (ds : List ℕ) → list_all is_ascii_digit ds ≡ all_ascii_digits ds
all_tests [] = refl
all_tests (c ∷ ds) = ap {A = Bool} {B = Bool} (λ t. is_ascii_digit c && t) (all_tests ds)

-- the test of each byte tells digits
pub digits_from_test : (ds : List ℕ) → list_all is_ascii_digit ds ≡ true → AllDigits 10 ds
digits_from_test ds t = tested.to ds (sym (all_tests ds) ∙ t)

-- digits pass the test
pub test_from_digits : (ds : List ℕ) → AllDigits 10 ds → list_all is_ascii_digit ds ≡ true
test_from_digits ds digits = all_tests ds ∙ tested.from ds digits

-- the number that digits write after those of n
value_after : (n : ℕ) (ds : List ℕ) → digits_value_after 10 n ds ≡ n * 10 ^ length ds + value_of ds
value_after n [] = omega arith
value_after n (c ∷ ds) =
    let whole : digits_value_after 10 (n * 10 + digit_value c) ds ≡ (n * 10 + digit_value c) * 10 ^ length ds + value_of ds = value_after (n * 10 + digit_value c) ds in
    let first : digits_value_after 10 (0 * 10 + digit_value c) ds ≡ (0 * 10 + digit_value c) * 10 ^ length ds + value_of ds = value_after (0 * 10 + digit_value c) ds in
    whole ∙ joined n (digit_value c) (10 ^ length ds) (value_of ds) ∙ ap {A = ℕ} {B = ℕ} (λ p. n * p + ((0 * 10 + digit_value c) * 10 ^ length ds + value_of ds)) (sym (pow-suc 10 (length ds))) ∙ ap {A = ℕ} {B = ℕ} (λ v. n * 10 ^ suc (length ds) + v) (sym first)
  where
    joined : (n d p v : ℕ) → (n * 10 + d) * p + v ≡ n * (p * 10) + ((0 * 10 + d) * p + v)
    joined n d p v =
        let one : (n * 10 + d) * p ≡ n * 10 * p + d * p = add-mul (n * 10) d p in
        let two : n * 10 * p ≡ n * (10 * p) = mul_assoc n 10 p in
        let three : 10 * p ≡ p * 10 = omega arith in
        let four : n * (10 * p) ≡ n * (p * 10) = ap {A = ℕ} {B = ℕ} (λ t. n * t) three in
        let five : (0 * 10 + d) * p ≡ 0 * 10 * p + d * p = add-mul (0 * 10) d p in
        omega (arith, one, two, four, five)

-- the first digit has the weight of its place
value_cons : (c : ℕ) (ds : List ℕ) → value_of (c ∷ ds) ≡ digit_value c * 10 ^ length ds + value_of ds
value_cons c ds = value_after (0 * 10 + digit_value c) ds ∙ ap {A = ℕ} {B = ℕ} (λ d. d * 10 ^ length ds + value_of ds) (omega arith)

-- digits are below the power of ten of their length
value_below : (ds : List ℕ) → AllDigits 10 ds → value_of ds < 10 ^ length ds
value_below ds digits = digits_value-lt 10 ds digits

-- powers of ten grow
ten_grows : (i j : ℕ) → i ≤ j → 10 ^ i ≤ 10 ^ j
ten_grows i zero below = let none : i ≡ 0 = omega (arith, below) in rw none (omega arith)
ten_grows i (suc j) below = elim (cases_lt j i) [
  | inl over ↦ let same : i ≡ suc j = omega (arith, below, over) in rw same (omega arith)
  | inr under ↦ let more : 10 ^ suc j ≡ 10 ^ j * 10 = pow-suc 10 j in omega (arith, more, ten_grows i j under)
]

-- a number of several digits isn't small
value_least : (c : ℕ) (ds : List ℕ) → IsNumber (c ∷ ds) → 0 < length ds → 10 ^ length ds ≤ value_of (c ∷ ds)
value_least c ds is some = elim (cases_eq (digit_value c) 0) [
  | inl none ↦
      let digit : digit_value c + 48 ≡ c = digit_value_digit c (digit_from_value c is.digits.0) in
      let alone : length (c ∷ ds) ≡ 1 = is.front (omega (arith, digit, none)) in
      absurd (omega (arith, alone, some))
  | inr other ↦
      let weighs : 1 * 10 ^ length ds ≤ digit_value c * 10 ^ length ds = mul-le-mul_right (10 ^ length ds) (omega (arith, other)) in
      omega (arith, weighs, value_cons c ds)
]

-- a shorter number is less
pub shorter_less : (a b : List ℕ) → IsNumber a → IsNumber b → length a < length b → value_of a < value_of b
shorter_less a [] one two less = absurd (omega (arith, less))
shorter_less a (c ∷ b) one two less =
    let under : value_of a < 10 ^ length a = value_below a one.digits in
    let grows : 10 ^ length a ≤ 10 ^ length b = ten_grows (length a) (length b) (omega (arith, less)) in
    let least : 10 ^ length b ≤ value_of (c ∷ b) = value_least c b two (omega (arith, less, one.some)) in
    omega (arith, under, grows, least)

-- an order stays where the same is added
lifted : (o : Ordering) (m n k : ℕ) → MatchOrdering o (m < n) (m ≡ n) (n < m) → MatchOrdering o (k + m < k + n) (k + m ≡ k + n) (k + n < k + m)
lifted Less m n k h = omega (arith, h)
lifted Equal m n k h = omega (arith, h)
lifted Greater m n k h = omega (arith, h)

-- a greater digit decides
leads : (x y p m n : ℕ) → x < y → m < p → x * p + m < y * p + n
leads x y p m n less under =
    let one : (x + 1) * p ≤ y * p = mul-le-mul_right p (omega (arith, less)) in
    let two : (x + 1) * p ≡ x * p + 1 * p = add-mul x 1 p in
    omega (arith, one, two, under)

-- digits of one length are ordered as their bytes are
pub order_is : (a b : List ℕ) → length a ≡ length b → AllDigits 10 a → AllDigits 10 b → MatchOrdering (slice_cmp nat_cmp a b) (value_of a < value_of b) (value_of a ≡ value_of b) (value_of b < value_of a)
order_is [] [] long one two = refl
order_is [] (y ∷ b) long one two = absurd (omega (arith, long))
order_is (x ∷ a) [] long one two = absurd (omega (arith, long))
order_is (x ∷ a) (y ∷ b) long one two =
    let same : length a ≡ length b = omega (arith, long) in
    let dx : digit_value x + 48 ≡ x = digit_value_digit x (digit_from_value x one.0) in
    let dy : digit_value y + 48 ≡ y = digit_value_digit y (digit_from_value y two.0) in
    elim (cases_lt x y) [
      | inl less ↦ rw (← nat_cmp_is x y Less less, value_cons x a, value_cons y b, same) (leads (digit_value x) (digit_value y) (10 ^ length b) (value_of a) (value_of b) (omega (arith, dx, dy, less)) (rw same at (value_below a one.1)))
      | inr least ↦ elim (cases_lt y x) [
        | inl more ↦ rw (← nat_cmp_is x y Greater more, value_cons x a, value_cons y b, same) (leads (digit_value y) (digit_value x) (10 ^ length b) (value_of b) (value_of a) (omega (arith, dx, dy, more)) (value_below b two.1))
        | inr most ↦
            let is : x ≡ y = omega (arith, least, most) in
            rw (← nat_cmp_is x y Equal is, value_cons x a, value_cons y b, same, is) (lifted (slice_cmp nat_cmp a b) (value_of a) (value_of b) (digit_value y * 10 ^ length b) (order_is a b same one.1 two.1))
      ]
    ]

-- what a number below 2^64 is written as
pub number_is : (text : List ℕ) → IsNumber text → value_of text < 2 ^ 64 → text ≡ decimal (value_of text)
number_is text is below = sym (decimal-digits_value own text is.digits is.some is.front below)

-- a number that is no decimal of up to 20 digits is large
pub number_large : (text : List ℕ) → IsNumber text → ((value : ℕ) → IsDecimal text value → ⊥) → 2 ^ 64 ≤ value_of text
number_large text is none = elim (cases_lt (value_of text) (2 ^ 64)) [
  | inr large ↦ large
  | inl small ↦ elim (cases_lt 20 (length text)) [
    | inl long ↦ long_large text is long
    | inr short ↦ absurd (none (value_of text) (record { some = is.some; short = short; digits = is.digits; is = refl; below = small }))
  ]
]
  where
    long_large : (text : List ℕ) → IsNumber text → 20 < length text → 2 ^ 64 ≤ value_of text
    long_large [] is long = absurd (omega (arith, long))
    long_large (c ∷ ds) is long =
        let grows : 10 ^ 20 ≤ 10 ^ length ds = ten_grows 20 (length ds) (omega (arith, long)) in
        let least : 10 ^ length ds ≤ value_of (c ∷ ds) = value_least c ds is (omega (arith, long)) in
        omega (arith, grows, least)

-- what is written of a number is a number
pub IsNumber-decimal : (n : ℕ) → n < 2 ^ 64 → IsNumber (decimal n)
IsNumber-decimal n low = record { some = decimal_nonempty n low; digits = digits_decimal own n low; front = front }
  where
    front : get_or (decimal n) 0 0 ≡ 48 → length (decimal n) ≡ 1
    front zeros = elim (cases_lt 0 n) [
      | inl more ↦ let first : 48 < get_or (decimal n) 0 0 = first_decimal n more low in absurd (omega (arith, first, zeros))
      | inr none ↦ let is : n ≡ 0 = omega (arith, none) in rw (is, decimal_digit 0 (omega arith)) refl
    ]

-- what is written of a number has that value
pub value-decimal : (n : ℕ) → n < 2 ^ 64 → value_of (decimal n) ≡ n
value-decimal n low = digits_value-decimal own n low

-- a digit is no byte below 48
digit_differs : (c mark : ℕ) → digit_value c < 10 → mark < 48 → c ≡ mark → ⊥
digit_differs c mark digit low same = let range = digit_from_value c digit in omega (arith, range, low, same)

-- digits have no byte below 48
pub Lacks-digits : (mark : ℕ) (ds : List ℕ) → mark < 48 → AllDigits 10 ds → Lacks mark ds
Lacks-digits mark [] low digits = tt
Lacks-digits mark (c ∷ ds) low digits = (digit_differs c mark digits.0 low, Lacks-digits mark ds low digits.1)

-- two numbers of one length, by the order of their bytes
ordered : (o : Ordering) (a b : List ℕ) → IsNumber a → IsNumber b → length b ≤ length a → length a ≤ length b → slice_cmp nat_cmp a b ≡ o → MatchOrdering o (value_of a < value_of b) (value_of a ≡ value_of b) (value_of b < value_of a)
ordered o a b one two under over is = subst (λ (o : Ordering). MatchOrdering o (value_of a < value_of b) (value_of a ≡ value_of b) (value_of b < value_of a)) is (order_is a b (omega (arith, under, over)) one.digits two.digits)

-- the one that is less by bytes is less
pub less_is : (a b : List ℕ) → IsNumber a → IsNumber b → length b ≤ length a → length a ≤ length b → slice_cmp nat_cmp a b ≡ Less → value_of a < value_of b
less_is a b one two under over is = ordered Less a b one two under over is

-- equal ones are not less
pub same_not_less : (a b : List ℕ) → IsNumber a → IsNumber b → length b ≤ length a → length a ≤ length b → slice_cmp nat_cmp a b ≡ Equal → value_of a < value_of b → ⊥
same_not_less a b one two under over is less = let same : value_of a ≡ value_of b = ordered Equal a b one two under over is in omega (arith, same, less)

-- the one that is greater by bytes is not less
pub greater_not_less : (a b : List ℕ) → IsNumber a → IsNumber b → length b ≤ length a → length a ≤ length b → slice_cmp nat_cmp a b ≡ Greater → value_of a < value_of b → ⊥
greater_not_less a b one two under over is less = let more : value_of b < value_of a = ordered Greater a b one two under over is in omega (arith, more, less)

-- what is known of the value of a number from what is read of it
pub valued : (text : List ℕ) (found : Option ℕ) → IsNumber text → MatchOption found ((value : ℕ) → IsDecimal text value → ⊥) (IsDecimal text) → MatchOption found (2 ^ 64 ≤ value_of text) (λ n. (n ≡ value_of text) × (text ≡ decimal n))
valued text None is none = number_large text is none
valued text (Some n) is read =
    let value : value_of text ≡ n = read.is in
    (sym value, subst (λ (m : ℕ). text ≡ decimal m) value (number_is text is (rw value (read.below))))

-- a test that answers true tells what holds, and one that answers false what doesn't
pub holds : {P : Type 0} → P → (true ≡ true → P) × (P → true ≡ true)
holds p = (λ t. p, λ q. refl)

-- a test that answers false tells that it does not hold
pub fails : {P : Type 0} → (P → ⊥) → (false ≡ true → P) × (P → false ≡ true)
fails not = (λ t. absurd (false≢true t), λ p. absurd (not p))

-- an empty text is no number
pub empty_fails : (text : List ℕ) → true ≡ (length text == 0) → IsNumber text → ⊥
empty_fails text none is = let e : length text ≡ 0 = (Decides-eqb (length text) 0).0 (sym none) in omega (arith, e, is.some)

-- without a needless zero, digits are a number
pub digits_tell : (text : List ℕ) (result : Bool) → false ≡ (length text == 0) → (get_or text 0 0 ≡ 48 → length text ≡ 1) → result ≡ list_all is_ascii_digit text → (result ≡ true → IsNumber text) × (IsNumber text → result ≡ true)
digits_tell text result some front is = (λ t. record { some = nonempty text some; digits = digits_from_test text (sym is ∙ t); front = front }, λ number. is ∙ test_from_digits text number.digits)
  where
    nonempty : (text : List ℕ) → false ≡ (length text == 0) → 0 < length text
    nonempty text some = elim (cases_eq (length text) 0) [
      | inl none ↦ absurd (false≢true (some ∙ (Decides-eqb (length text) 0).1 none))
      | inr other ↦ omega (arith, other)
    ]

-- what is no number isn't written of one
pub not_number : (text : List ℕ) (n : ℕ) → n < 2 ^ 64 → (IsNumber text → ⊥) → text ≡ decimal n → ⊥
not_number text n low not is = not (rw is (IsNumber-decimal n low))

-- what is written of a number below 2^64 has that value
pub too_large : (text : List ℕ) (n : ℕ) → n < 2 ^ 64 → 2 ^ 64 ≤ value_of text → text ≡ decimal n → ⊥
too_large text n low large is = let value : value_of text ≡ n = ap {A = List ℕ} {B = ℕ} value_of is ∙ value-decimal n low in omega (arith, value, large, low)

-- what is written of a number and has a value has that number as its value
pub written_as : (text : List ℕ) (m n : ℕ) → n < 2 ^ 64 → m ≡ value_of text → text ≡ decimal n → m ≡ n
written_as text m n low value is = value ∙ ap {A = List ℕ} {B = ℕ} value_of is ∙ value-decimal n low
