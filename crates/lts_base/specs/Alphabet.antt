-- Promise: labels, and the alphabet that all files of a run share.
use Rattle.std.specs.Prelude.{◌≡◌, ℕ, ◌-◌, ◌<◌, ◌≤◌, Bool, false, ◌||◌, List, [], length, take, drop, All, codes, slice_index_or as get_or}
use Rattle.std.specs.Str.{IsUtf8, bytes_eq}
use Rattle.std.specs.Ordering.{nat_cmp}
use Rattle.std.specs.Cmp.Lexicographic.{slice_cmp}
use Rattle.std.specs.declared.cmp.Ordering.TheVariants.{Less}
use Rattle.lts_base.specs.declared.limits.TheConstants.{MOST_LABELS, MOST_LABEL_BYTES}
use Rattle.lts_base.specs.System.{System}

-- the bytes are the text of a label: at least one byte and at most `MOST_LABEL_BYTES`, of UTF-8 without a byte below 32
pub record IsLabel (text : List ℕ) : Type 0 where
  pub some : 0 < length text
  pub short : length text ≤ MOST_LABEL_BYTES
  pub plain : All (λ b. 32 ≤ b) text
  pub utf8 : IsUtf8 text

-- the labels of a run: the texts of the inputs come first, then those of the outputs
pub record Alphabet : Type 0 where
  pub texts : List (List ℕ)
  pub inputs : ℕ

abbrev pub text_at : List (List ℕ) → ℕ → List ℕ
text_at texts k = get_or texts k []

-- each text comes before all later ones in the order of their bytes
abbrev pub AreRising : List (List ℕ) → Type 0
AreRising texts = (j k : ℕ) → j < k → k < length texts → slice_cmp nat_cmp (text_at texts j) (text_at texts k) ≡ Less

-- the texts that mean quiescence or the internal action
abbrev pub is_reserved : List ℕ → Bool
is_reserved text = bytes_eq text (codes "delta") || bytes_eq text (codes "i") || bytes_eq text (codes "tau")

-- at most `MOST_LABELS` distinct labels, none of them reserved: the inputs in the order of their bytes, and then the outputs in the order of theirs
pub record IsAlphabet (a : Alphabet) : Type 0 where
  pub inputs : a.inputs ≤ length a.texts
  pub few : length a.texts ≤ MOST_LABELS
  pub labels : All IsLabel a.texts
  pub free : All (λ text. is_reserved text ≡ false) a.texts
  pub rising_inputs : AreRising (take a.inputs a.texts)
  pub rising_outputs : AreRising (drop a.inputs a.texts)
  pub apart : (j k : ℕ) → j < a.inputs → a.inputs ≤ k → k < length a.texts → ¬ (text_at a.texts j ≡ text_at a.texts k)

-- the system's inputs and outputs are those of the alphabet
pub record IsOver (a : Alphabet) (s : System) : Type 0 where
  pub inputs : s.inputs ≡ a.inputs
  pub outputs : s.outputs ≡ length a.texts - a.inputs
