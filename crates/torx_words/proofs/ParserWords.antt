-- What a word is, to the parser and in the form of the words.
use Rattle.std.proofs.Common.{◌≡◌, ◌+◌, ◌==◌, ℕ, Bool, true, false, refl, arith, List, [], ◌∷◌, Option, Some, None}
use Rattle.std.specs.Prelude.{slice_get, encode_utf8_all}
use Rattle.std.specs.Str.{IsUtf8, bytes_eq, chars}
use Rattle.std.proofs.lemmas.Str.{encodes-chars, IsUtf8-drop, IsCharBoundary-after_ascii}
use Rattle.std.proofs.lemmas.Bool.Decides.{nat_tests}
use Rattle.clap.specs.Walk.{Text}
use Rattle.clap.specs.Lexer.{long_of, short_of}
use Rattle.torx_words.specs.Form.{is_dashed, name_and_value, option_parts}

-- the word that ends the options
abbrev pub divider_word : Text
divider_word = 45 ∷ 45 ∷ []

-- a word ends the options, or is no option, or is a long option, or gives short flags, of which the first is the character x
pub data WordIs : Text → Type 0 where
  divider : {word : Text} → bytes_eq word divider_word ≡ true → WordIs word
  plain_text : {word : Text} → bytes_eq word divider_word ≡ false → is_dashed word ≡ false → long_of word ≡ None → short_of word ≡ None → WordIs word
  long_option : {word : Text} (p : Text × Option Text) → bytes_eq word divider_word ≡ false → is_dashed word ≡ true → option_parts word ≡ Some p → long_of word ≡ Some p → WordIs word
  short_flags : {word : Text} (c : ℕ) (rest : Text) (x : ℕ) → bytes_eq word divider_word ≡ false → is_dashed word ≡ true → option_parts word ≡ None → long_of word ≡ None
      → short_of word ≡ Some (c ∷ rest) → slice_get (chars (c ∷ rest)) 0 ≡ Some x → WordIs word

-- a text that isn't empty has a first character
has_char : (c : ℕ) (rest : Text) → IsUtf8 (c ∷ rest) → (x : ℕ) × (slice_get (chars (c ∷ rest)) 0 ≡ Some x)
has_char c rest utf8 = go (chars (c ∷ rest)) (encodes-chars (c ∷ rest) utf8)
  where
    go : (cs : List ℕ) → encode_utf8_all cs ≡ c ∷ rest → (x : ℕ) × (slice_get cs 0 ≡ Some x)
    go [] e = cc
    go (x ∷ xs) e = (x, refl)

-- what follows a hyphen is a text
after_hyphen : (b : ℕ) (text : Text) → b ≡ 45 → IsUtf8 (b ∷ text) → IsUtf8 text
after_hyphen b text e utf8 = IsUtf8-drop (b ∷ text) (0 + 1) utf8 (IsCharBoundary-after_ascii (b ∷ text) 0 utf8 (omega arith) (omega arith))

-- a word of one byte is no option
one_byte : (b : ℕ) (t : Bool) → (b == 45) ≡ t → WordIs (b ∷ [])
one_byte b true e = plain_text (rw e refl) refl (rw e refl) (rw e refl)
one_byte b false e = plain_text (rw e refl) refl (rw e refl) (rw e refl)

-- two hyphens end the options, or begin a long option
long_word_is : (b c : ℕ) (text : Text) → (b == 45) ≡ true → (c == 45) ≡ true → WordIs (b ∷ c ∷ text)
long_word_is b c [] e f = divider (rw (e, f) refl)
long_word_is b c (x ∷ xs) e f = long_option (name_and_value (x ∷ xs)) (rw (e, f) refl) e (rw (e, f) refl) (rw (e, f) refl)

-- one hyphen begins short flags
short_word_is : (b c : ℕ) (text : Text) → (b == 45) ≡ true → (c == 45) ≡ false → IsUtf8 (b ∷ c ∷ text) → WordIs (b ∷ c ∷ text)
short_word_is b c text e f utf8 =
    let hyphen : b ≡ 45 = grind (arith, nat_tests) in
    let first = has_char c text (after_hyphen b (c ∷ text) hyphen utf8) in
    short_flags c text first.0 (rw (e, f) refl) e (rw (e, f) refl) (rw (e, f) refl) (rw (e, f) refl) first.1

-- a word of two bytes or more, by its first two
two_bytes : (b c : ℕ) (text : Text) (t u : Bool) → (b == 45) ≡ t → (c == 45) ≡ u → IsUtf8 (b ∷ c ∷ text) → WordIs (b ∷ c ∷ text)
two_bytes b c text false u e f utf8 = plain_text (rw e refl) e (rw e refl) (rw e refl)
two_bytes b c text true true e f utf8 = long_word_is b c text e f
two_bytes b c text true false e f utf8 = short_word_is b c text e f utf8

-- each text is one of the four
pub word_is : (word : Text) → IsUtf8 word → WordIs word
word_is [] utf8 = plain_text refl refl refl refl
word_is (b ∷ []) utf8 = one_byte b (b == 45) refl
word_is (b ∷ c ∷ text) utf8 = two_bytes b c text (b == 45) (c == 45) refl refl utf8
