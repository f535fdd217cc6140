-- Promise: numbers of any size, as texts, and lists of them.
use Rattle.std.specs.Prelude.{◌≡◌, ℕ, ◌+◌, ◌<◌, ◌≤◌, List, [], ◌∷◌, ◌++◌, length, map, All, decimal, slice_index_or as get_or}
use Rattle.std.specs.Str.Parse.{AllDigits, digits_value}
use Rattle.text_scan.specs.Cut.{Lacks}
use Rattle.cert_text.specs.declared.error.CertError.{CertError}
use Rattle.cert_text.specs.declared.error.CertError.TheVariants.{Line, Cut, UnknownLabel, StateRange, Memory}
use Rattle.cert_text.specs.Printed.{spaced}
use Rattle.cert_text.specs.Certificate.{IsStates}

-- the text is a number: digits without a needless zero at the front
pub record IsNumber (text : List ℕ) : Type 0 where
  pub some : 0 < length text
  pub digits : AllDigits 10 text
  pub front : get_or text 0 0 ≡ 48 → length text ≡ 1

-- the number that the digits write
abbrev pub value_of : List ℕ → ℕ
value_of text = digits_value 10 text

-- numbers, each greater than the one before, and the first one greater than this value
abbrev pub Rises : ℕ → List (List ℕ) → Type 0
Rises low [] = Unit {0}
Rises low (n ∷ ns) = IsNumber n × (low < value_of n) × Rises (value_of n) ns

-- the text is a list of numbers, each after a space: at least one, and each greater than the one before
pub record IsNumberList (text : List ℕ) : Type 0 where
  pub first : List ℕ
  pub others : List (List ℕ)
  pub spelled : text ≡ spaced (first ∷ others)
  pub number : IsNumber first
  pub rising : Rises (value_of first) others

-- the text goes on with such numbers
pub record GoesOn (low : ℕ) (text : List ℕ) : Type 0 where
  pub numbers : List (List ℕ)
  pub spelled : text ≡ spaced numbers
  pub rising : Rises low numbers

-- some number in the text isn't below the bound
pub record HasLarge (bound : ℕ) (text : List ℕ) : Type 0 where
  pub before : List (List ℕ)
  pub large : List ℕ
  pub after : List (List ℕ)
  pub spelled : text ≡ spaced (before ++ large ∷ after)
  pub each : All IsNumber (before ++ large ∷ after)
  pub over : bound ≤ value_of large

-- the text is a list of numbers, in any order
pub record AreNumbers (text : List ℕ) : Type 0 where
  pub numbers : List (List ℕ)
  pub spelled : text ≡ spaced numbers
  pub each : All IsNumber numbers

-- the text is empty or goes on with a space
abbrev pub IsEdge : List ℕ → Type 0
IsEdge [] = Unit {0}
IsEdge (b ∷ text) = b ≡ 32

-- the text is a space, a piece without spaces, and the rest
pub record IsPiece (text piece rest : List ℕ) : Type 0 where
  pub whole : text ≡ 32 ∷ (piece ++ rest)
  pub free : Lacks 32 piece
  pub edge : IsEdge rest

-- the text doesn't begin with a space and a number
abbrev pub LacksNumber : List ℕ → Type 0
LacksNumber text = (n : List ℕ) (ns : List (List ℕ)) → IsNumber n → ¬ (text ≡ spaced (n ∷ ns))

-- the text of two places, which are counted from 1
abbrev pub places_text : ℕ → ℕ → List ℕ
places_text i j = spaced (decimal (i + 1) ∷ decimal (j + 1) ∷ [])

-- the text is that of no two places below these bounds
abbrev pub NamesNoPair : ℕ → ℕ → List ℕ → Type 0
NamesNoPair lefts rights text = (i j : ℕ) → i < lefts → j < rights → ¬ (text ≡ places_text i j)

-- the states are those that the text lists, all below the bound
pub record AreStatesOf (bound : ℕ) (text states : List ℕ) : Type 0 where
  pub spelled : text ≡ spaced (map decimal states)
  pub below : All (λ q. q < bound) states

-- the text lists these states
pub record IsListOf (bound : ℕ) (text states : List ℕ) : Type 0 where
  pub list : AreStatesOf bound text states
  pub sound : IsStates states

-- what is wrong with the list on line n: it is none; or else it has a number that isn't below the bound
abbrev pub IsListFault : ℕ → List ℕ → ℕ → CertError → Type 0
IsListFault bound text n (Line k) = (k ≡ n) × ¬ IsNumberList text
IsListFault bound text n (StateRange k) = (k ≡ n) × IsNumberList text × HasLarge bound text
IsListFault bound text n (Cut k) = ⊥
IsListFault bound text n (UnknownLabel k) = ⊥
IsListFault bound text n Memory = Unit {0}
