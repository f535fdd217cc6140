-- Promise: which content is a trace, and which of its lines is at fault.
use Rattle.std.specs.Prelude.{◌≡◌, ℕ, ◌+◌, true, List, ◌∷◌, ◌++◌, length}
use Rattle.std.specs.List.{AllZip}
use Rattle.lts_base.specs.declared.item.Item.{Item}
use Rattle.lts_base.specs.Alphabet.{Alphabet}
use Rattle.text_scan.specs.Lines.{lines_of, without_cr}
use Rattle.text_scan.specs.Listing.{has_bytes, texts_of}
use Rattle.trace_text.specs.declared.error.TraceError.{TraceError}
use Rattle.trace_text.specs.declared.error.TraceError.TheVariants.{UnknownLabel, Memory}
use Rattle.trace_text.specs.Items.{IsNamed, IsUnnamed}

-- the content is a trace: each line that isn't empty names its item
abbrev pub IsTrace : Alphabet → List ℕ → List Item → Type 0
IsTrace a content σ = AllZip (IsNamed a) (texts_of (lines_of content)) σ

-- line n of the content, counted from 1, isn't empty and names no item; those before it that aren't empty name some
pub record RefusesTrace (a : Alphabet) (content : List ℕ) (n : ℕ) : Type 0 where
  pub before : List (List ℕ)
  pub line : List ℕ
  pub others : List (List ℕ)
  pub lines : lines_of content ≡ before ++ line ∷ others
  pub named : (σ : List Item) × AllZip (IsNamed a) (texts_of before) σ
  pub some : has_bytes (without_cr line) ≡ true
  pub unnamed : IsUnnamed a (without_cr line)
  pub number : n ≡ length before + 1

-- the fault is at a line of which this holds, or memory ran out
abbrev pub IsFaultBy : (ℕ → Type 0) → TraceError → Type 0
IsFaultBy Holds (UnknownLabel n) = Holds n
IsFaultBy Holds Memory = Unit {0}
