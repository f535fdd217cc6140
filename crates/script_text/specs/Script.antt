-- Promise: which content is a script, and which of its lines is at fault.
use Rattle.std.specs.Prelude.{◌≡◌, ℕ, ◌+◌, ◌<◌, true, List, ◌∷◌, ◌++◌, length, codes}
use Rattle.std.specs.List.{AllZip}
use Rattle.lts_base.specs.Alphabet.{Alphabet, text_at}
use Rattle.text_scan.specs.Lines.{lines_of, without_cr}
use Rattle.text_scan.specs.Listing.{has_bytes, texts_of}
use Rattle.walk_core.specs.declared.choice.Choice.{Choice}
use Rattle.walk_core.specs.declared.choice.Choice.TheVariants.{Input, Observe}
use Rattle.script_text.specs.declared.error.ScriptError.{ScriptError}
use Rattle.script_text.specs.declared.error.ScriptError.TheVariants.{Line, UnknownLabel, Memory}

-- the line asks for this choice: to send an input, or to observe
abbrev pub IsChoice : Alphabet → List ℕ → Choice → Type 0
IsChoice a line (Input k) = (k < a.inputs) × (line ≡ codes "send " ++ text_at a.texts k)
IsChoice a line Observe = line ≡ codes "observe"

-- the text is that of no input
abbrev pub IsNoInput : Alphabet → List ℕ → Type 0
IsNoInput a text = (k : ℕ) → k < a.inputs → ¬ (text ≡ text_at a.texts k)

-- the line is neither `observe` nor `send` and a text
pub record IsFormless (line : List ℕ) : Type 0 where
  pub observes : ¬ (line ≡ codes "observe")
  pub sends : (text : List ℕ) → ¬ (line ≡ codes "send " ++ text)

-- the line is `send` and a text that is no input
pub record IsUnknown (a : Alphabet) (line : List ℕ) : Type 0 where
  pub text : List ℕ
  pub sends : line ≡ codes "send " ++ text
  pub none : IsNoInput a text

-- the line, which has this number, asks for no choice, for this reason
abbrev pub IsNoChoice : Alphabet → List ℕ → ℕ → ScriptError → Type 0
IsNoChoice a line n (Line m) = (m ≡ n) × IsFormless line
IsNoChoice a line n (UnknownLabel m) = (m ≡ n) × IsUnknown a line
IsNoChoice a line n Memory = ⊥

-- the content is a script: each line that isn't empty asks for its choice
abbrev pub IsScript : Alphabet → List ℕ → List Choice → Type 0
IsScript a content script = AllZip (IsChoice a) (texts_of (lines_of content)) script

-- the first line that isn't empty and asks for no choice, for this reason; those before it that aren't empty ask for some
pub record HasFault (a : Alphabet) (content : List ℕ) (error : ScriptError) : Type 0 where
  pub before : List (List ℕ)
  pub line : List ℕ
  pub others : List (List ℕ)
  pub lines : lines_of content ≡ before ++ line ∷ others
  pub asked : (script : List Choice) × AllZip (IsChoice a) (texts_of before) script
  pub some : has_bytes (without_cr line) ≡ true
  pub fault : IsNoChoice a (without_cr line) (length before + 1) error

-- why the content is no script, or that memory ran out
abbrev pub RefusesScript : Alphabet → List ℕ → ScriptError → Type 0
RefusesScript a content (Line n) = HasFault a content (Line n)
RefusesScript a content (UnknownLabel n) = HasFault a content (UnknownLabel n)
RefusesScript a content Memory = Unit {0}
