-- The number of a text, and the range of an option's number.
use Rattle.std.proofs.Common.{arith, ◌≡◌, ◌&&◌, ◌^◌, ℕ, ◌<◌, ◌≤◌, Bool, cond, true, false, refl, sym, ap, subst, List, [], ◌∷◌, length, map, Option, Some, None, Ok, Err, is_some, unwrap_or, true≢false}
use Rattle.std.specs.Prelude.{MatchOption, nat_le, nat_lt, option_and_then, option_map, min, max}
use Rattle.std.specs.Char.{digit_value}
use Rattle.std.specs.List.{find, list_all}
use Rattle.std.specs.Option.{option_map_or}
use Rattle.std.specs.Str.{bytes_eq}
use Rattle.std.specs.Str.Parse.{AllDigits, digits_value}
use Rattle.std.proofs.lemmas.Bool.{ltb-true, lt-ltb, leb-true, le-leb}
use Rattle.clap.proofs.WalkLemmas.{both}
use Rattle.text_scan.specs.Decimal.{IsDecimal}
use Rattle.torx_words.specs.Accepted.{Entry, Shape, accepted, fits, has_clash, has_values, judged, known_of, may_all_stand, pairs_of, refusal_of}
use Rattle.torx_words.specs.Form.{Reading, read_once, value_of}
use Rattle.torx_words.specs.Meaning.{kind_by, number_of, range_of, range_with}
use Rattle.torx_words.specs.Named.{GivenWords}
use Rattle.torx_words.specs.Values.{decimal_of, may_stand}
use Rattle.torx_words.specs.declared.form.ValueKind.{ValueKind}
use Rattle.torx_words.specs.declared.form.ValueKind.TheVariants.{Flag, Marks, Divergence, Name, Number}
use Rattle.torx_words.specs.declared.kind.UsageKind.{UsageKind}
use Rattle.torx_words.specs.declared.kind.UsageKind.TheVariants.{Words, Value, Clash}
use Rattle.torx_words.proofs.ParserRules.{same_text}

-- the test for digits
abbrev are_digits : List ℕ → Bool
are_digits text = list_all (λ b. nat_lt (digit_value b) 10) text

digits_from : (text : List ℕ) → are_digits text ≡ true → AllDigits 10 text
digits_from [] e = tt
digits_from (b ∷ text) e = (ltb-true (digit_value b) 10 (both _ _ e).0, digits_from text (both _ _ e).1)

-- two tests that pass
joined : (a b : Bool) → a ≡ true → b ≡ true → (a && b) ≡ true
joined true true e f = refl
joined true false e f = f
joined false b e f = e

digits_to : (text : List ℕ) → AllDigits 10 text → are_digits text ≡ true
digits_to [] h = refl
digits_to (b ∷ text) h = joined _ _ (lt-ltb (digit_value b) 10 h.0) (digits_to text h.1)

-- the test of a decimal
abbrev is_decimal : List ℕ → Bool
is_decimal text = (nat_lt 0 (length text) && nat_le (length text) 20) && (are_digits text && nat_lt (digits_value 10 text) (2 ^ 64))

decimal_from : (text : List ℕ) → is_decimal text ≡ true → IsDecimal text (digits_value 10 text)
decimal_from text e =
    let (size, value) = both _ _ e in
    let (some, short) = both _ _ size in
    let (digits, below) = both _ _ value in
    record {
      some = ltb-true 0 (length text) some;
      short = leb-true (length text) 20 short;
      digits = digits_from text digits;
      is = refl;
      below = ltb-true (digits_value 10 text) (2 ^ 64) below;
    }

decimal_to : (text : List ℕ) (n : ℕ) → IsDecimal text n → (is_decimal text ≡ true) × (digits_value 10 text ≡ n)
decimal_to text n h =
    let below : digits_value 10 text < 2 ^ 64 = rw h.is h.below in
    (joined _ _ (joined _ _ (lt-ltb 0 (length text) h.some) (le-leb (length text) 20 h.short)) (joined _ _ (digits_to text h.digits) (lt-ltb (digits_value 10 text) (2 ^ 64) below)), h.is)

-- a text has the number exactly where it is a decimal with that value
pub decimal_of-is : (text : List ℕ) (n : ℕ) → IsDecimal text n → decimal_of text ≡ Some n
decimal_of-is text n h =
    let (test, value) = decimal_to text n h in
    subst (λ (b : Bool). cond b (Some (digits_value 10 text)) None ≡ Some n) (sym test) (ap Some value)

pub IsDecimal-from_some : (text : List ℕ) (n : ℕ) → decimal_of text ≡ Some n → IsDecimal text n
IsDecimal-from_some text n e = go (is_decimal text) refl e
  where
    go : (b : Bool) → is_decimal text ≡ b → cond b (Some (digits_value 10 text)) None ≡ Some n → IsDecimal text n
    go true test e = let same : digits_value 10 text ≡ n = cc in subst (IsDecimal text) same (decimal_from text test)
    go false test e = cc

-- what reads decimals reads the number of the text
pub decimal_is : (text : List ℕ) (o : Option ℕ) → MatchOption o ((n : ℕ) → IsDecimal text n → ⊥) (IsDecimal text) → o ≡ decimal_of text
decimal_is text (Some n) h = sym (decimal_of-is text n h)
decimal_is text None h = go (is_decimal text) refl
  where
    go : (b : Bool) → is_decimal text ≡ b → None ≡ cond b (Some (digits_value 10 text)) None
    go true test = absurd (h (digits_value 10 text) (decimal_from text test))
    go false test = refl

-- a value of the kind of a number is within its range
within : (least most usual : ℕ) (value : Option (List ℕ)) → may_stand (Number least most) value ≡ true
    → (min least usual ≤ unwrap_or (option_and_then decimal_of value) usual) × (unwrap_or (option_and_then decimal_of value) usual ≤ max most usual)
within least most usual None e = (omega arith, omega arith)
within least most usual (Some text) e = go (decimal_of text) e
  where
    at : (n : ℕ) (b : Bool) → (nat_le least n && nat_le n most) ≡ b → is_some (cond b (Some n) None) ≡ true → (min least usual ≤ n) × (n ≤ max most usual)
    at n true h e =
        let low : least ≤ n = leb-true least n (both _ _ h).0 in
        let high : n ≤ most = leb-true n most (both _ _ h).1 in
        (omega (arith, low), omega (arith, high))
    at n false h e = absurd (true≢false (sym e))

    go : (o : Option ℕ) → is_some (option_and_then (λ n. cond (nat_le least n && nat_le n most) (Some n) None) o) ≡ true → (min least usual ≤ unwrap_or o usual) × (unwrap_or o usual ≤ max most usual)
    go None e = absurd (true≢false (sym e))
    go (Some n) e = at n (nat_le least n && nat_le n most) refl e

-- where all values can stand, that of a name can stand as its option's
kind_stands : (r : Reading) (name : List ℕ) (options : List Entry) (kind : ValueKind) → may_all_stand r options ≡ true → kind_by name options ≡ Some kind → may_stand kind (value_of name r) ≡ true
kind_stands r name [] kind all e = cc
kind_stands r name (x ∷ options) kind all e = go (bytes_eq x.name name) refl e (kind_stands r name options kind (both _ _ all).1)
  where
    go : (b : Bool) → bytes_eq x.name name ≡ b → option_map (λ (y : Entry). y.kind) (cond b (Some x) (find (λ (y : Entry). bytes_eq y.name name) options)) ≡ Some kind
        → (kind_by name options ≡ Some kind → may_stand kind (value_of name r) ≡ true) → may_stand kind (value_of name r) ≡ true
    go true is e rest =
        let same : x.kind ≡ kind = cc in
        let here : may_stand x.kind (value_of name r) ≡ true = subst (λ (n : List ℕ). may_stand x.kind (value_of n r) ≡ true) (same_text x.name name is) (both _ _ all).0 in
        subst (λ (k : ValueKind). may_stand k (value_of name r) ≡ true) same here
    go false is e rest = rest e

-- what isn't refused has values that can stand
stands_all : (shape : Shape) (r : Reading) → refusal_of shape r ≡ None → may_all_stand r shape.options ≡ true
stands_all shape r e = (both _ _ (go (fits shape r) (has_values shape r) (has_clash (pairs_of shape) r) e)).1
  where
    go : (a b c : Bool) → cond a (cond b (cond c (Some Clash) None) (Some Value)) (Some Words) ≡ None → b ≡ true
    go true true c e = refl
    go true false c e = cc
    go false b c e = cc

-- the number of an option of what isn't refused is within the range of the option
pub number_within : (shape : Shape) (r : Reading) (name : List ℕ) (usual n : ℕ) → refusal_of shape r ≡ None → n ≤ 18446744073709551615 → n ≡ number_of name usual r
    → ((range_of name usual shape).0 ≤ n) × (n ≤ (range_of name usual shape).1)
number_within shape r name usual n good small is = go (kind_by name shape.options) refl
  where
    any : (0 ≤ n) × (n ≤ 18446744073709551615)
    any = (omega arith, small)

    go : (o : Option ValueKind) → kind_by name shape.options ≡ o → ((range_with usual o).0 ≤ n) × (n ≤ (range_with usual o).1)
    go None e = any
    go (Some Flag) e = any
    go (Some Marks) e = any
    go (Some Divergence) e = any
    go (Some Name) e = any
    go (Some (Number least most)) e =
        let stands = kind_stands r name shape.options (Number least most) (stands_all shape r good) e in
        rw is (within least most usual (value_of name r) stands)

-- the same of what is seen of words that are accepted
pub number_given : (shape : Shape) (r : Reading) (g : GivenWords) (name : List ℕ) (usual n : ℕ) → refusal_of shape r ≡ None → record { shape = shape; reading = r } ≡ g → n ≤ 18446744073709551615
    → n ≡ number_of name usual r → ((range_of name usual g.shape).0 ≤ n) × (n ≤ (range_of name usual g.shape).1)
number_given shape r g name usual n good e small is = subst (λ (x : GivenWords). ((range_of name usual x.shape).0 ≤ n) × (n ≤ (range_of name usual x.shape).1)) e (number_within shape r name usual n good small is)

-- what is accepted isn't refused
accepted_unrefused : (shape : Shape) (words : List (List ℕ)) (r : Reading) → accepted shape words ≡ Ok r → refusal_of shape r ≡ None
accepted_unrefused shape words r e = go (read_once (map known_of shape.options) words) e
  where
    judge : (q : Reading) (o : Option UsageKind) → refusal_of shape q ≡ o → judged q o ≡ Ok r → refusal_of shape r ≡ None
    judge q None is f = let same : q ≡ r = cc in subst (λ (x : Reading). refusal_of shape x ≡ None) same is
    judge q (Some kind) is f = absurd cc

    go : (o : Option Reading) → option_map_or (λ q. judged q (refusal_of shape q)) o (Err Words) ≡ Ok r → refusal_of shape r ≡ None
    go None f = absurd cc
    go (Some q) f = judge q (refusal_of shape q) refl f

-- the number that accepted words give an option, or its usual one, is at most the most that the option may have
pub number_most : (shape : Shape) (words : List (List ℕ)) (r : Reading) (name : List ℕ) (usual least most : ℕ) → accepted shape words ≡ Ok r → kind_by name shape.options ≡ Some (Number least most) → number_of name usual r ≤ max most usual
number_most shape words r name usual least most e kind =
    (within least most usual (value_of name r) (kind_stands r name shape.options (Number least most) (stands_all shape r (accepted_unrefused shape words r e)) kind)).1
