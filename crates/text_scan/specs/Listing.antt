-- Promise: files with a label on each line, and their first fault.
use Rattle.std.specs.Prelude.{◌≡◌, ℕ, ◌+◌, ◌<◌, ◌≤◌, Bool, List, [], ◌∷◌, ◌++◌, length, map, filter, All, true, false, Result, MatchResult, ◌⊎◌}
use Rattle.std.specs.Str.{IsUtf8}
use Rattle.lts_base.specs.declared.limits.TheConstants.{MOST_LABEL_BYTES}
use Rattle.lts_base.specs.Alphabet.{IsLabel}
use Rattle.text_scan.specs.declared.error.LinesError.{LinesError}
use Rattle.text_scan.specs.declared.error.LinesError.TheVariants.{Line, LabelLong, NotUtf8, Memory}
use Rattle.text_scan.specs.Lines.{lines_of, without_cr}

-- the text isn't empty
abbrev pub has_bytes : List ℕ → Bool
has_bytes [] = false
has_bytes (b ∷ bytes) = true

-- the lines that aren't empty, each without a CR at its end
abbrev pub texts_of : List (List ℕ) → List (List ℕ)
texts_of lines = filter has_bytes (map without_cr lines)

-- the content lists these labels
pub record IsListing (content : List ℕ) (labels : List (List ℕ)) : Type 0 where
  pub texts : labels ≡ texts_of (lines_of content)
  pub each : All IsLabel labels

-- no byte of the text is below 32
abbrev pub IsPlain : List ℕ → Type 0
IsPlain text = All (λ b. 32 ≤ b) text

-- the fault of the text on line k: it isn't UTF-8; or else a byte is below 32; or else it has more than `MOST_LABEL_BYTES`
abbrev pub IsTextFault : List ℕ → ℕ → LinesError → Type 0
IsTextFault text k (NotUtf8 n) = (n ≡ k) × (¬ IsUtf8 text)
IsTextFault text k (Line n) = (n ≡ k) × IsUtf8 text × (¬ IsPlain text)
IsTextFault text k (LabelLong n) = (n ≡ k) × IsUtf8 text × IsPlain text × (MOST_LABEL_BYTES < length text)
IsTextFault text k Memory = Unit {0}

-- the texts with one more label; an empty text adds nothing
abbrev pub AddsText : List (List ℕ) → List ℕ → List (List ℕ) → Type 0
AddsText old text new = ((text ≡ []) × (new ≡ old)) ⊎ (IsLabel text × (new ≡ old ++ text ∷ []))

-- the lines before this line list labels, and its text is at fault
pub record IsFirstFault (content : List ℕ) (e : LinesError) : Type 0 where
  pub before : List (List ℕ)
  pub line : List ℕ
  pub after : List (List ℕ)
  pub lines : lines_of content ≡ before ++ line ∷ after
  pub good : All IsLabel (texts_of before)
  pub fault : IsTextFault (without_cr line) (length before + 1) e

-- why the content lists no labels: the first line at fault, counted from 1, or memory ran out
abbrev pub RefusesListing : List ℕ → LinesError → Type 0
RefusesListing content Memory = Unit {0}
RefusesListing content (NotUtf8 n) = IsFirstFault content (NotUtf8 n)
RefusesListing content (Line n) = IsFirstFault content (Line n)
RefusesListing content (LabelLong n) = IsFirstFault content (LabelLong n)

-- the texts are these labels, or memory ran out
abbrev pub AreThese : List (List ℕ) → Result (List (List ℕ)) LinesError → Type 0
AreThese labels result = MatchResult result (λ texts. texts ≡ labels) (λ e. e ≡ Memory)

-- this is why there are no texts, or memory ran out
abbrev pub IsRefusedBy : LinesError → Result (List (List ℕ)) LinesError → Type 0
IsRefusedBy e result = MatchResult result (λ _. ⊥) (λ f. (f ≡ e) ⊎ (f ≡ Memory))
