-- Private: lines in the form in which most files write their moves.
use Rattle.std.specs.Prelude.{◌≡◌, ℕ, ◌<◌, List, [], ◌∷◌, ◌++◌}
use Rattle.text_scan.specs.Blank.{trimmed}
use Rattle.text_scan.specs.Decimal.{IsDecimal}

-- the bytes begin with a decimal of a number below the states, and the rest follows it
pub record HasNumber (states : ℕ) (bytes : List ℕ) (n : ℕ) (rest : List ℕ) : Type 0 where
  pub digits : List ℕ
  pub whole : bytes ≡ digits ++ rest
  pub number : IsDecimal digits n
  pub below : n < states

-- the text is `(` from `,` middle `,` to `)`, with blanks before and after the brackets and the numbers, which are below
-- the states
pub record IsPlainText (states : ℕ) (text : List ℕ) (from : ℕ) (middle : List ℕ) (to : ℕ) : Type 0 where
  pub inner : List ℕ
  pub between : List ℕ
  pub first : List ℕ
  pub last : List ℕ
  pub brackets : trimmed text ≡ 40 ∷ (inner ++ 41 ∷ [])
  pub numbers : trimmed inner ≡ first ++ (between ++ last)
  pub commas : trimmed between ≡ 44 ∷ (middle ++ 44 ∷ [])
  pub from_is : IsDecimal first from
  pub to_is : IsDecimal last to
  pub from_below : from < states
  pub to_below : to < states
