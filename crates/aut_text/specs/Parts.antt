-- Private: the moves of a file with the texts of their labels, and how the label list of a system is made of them.
use Rattle.std.specs.Prelude.{◌≡◌, ℕ, ◌<◌, ◌≤◌, List, [], ◌∷◌, ◌++◌, ◌+◌, length, map, All, Option, Some, None, option_map, ◌⊎◌}
use Rattle.std.specs.Map.{lookup}
use Rattle.std.specs.Str.{bytes_eq}
use Rattle.lts_base.specs.declared.raw.RawMove.{RawMove}
use Rattle.lts_base.specs.Alphabet.{IsLabel, text_at}
use Rattle.lts_base.specs.Raw.{AreLabelsOf, Carries}

-- a move with the text of its label; no text is Tau
pub record NamedMove : Type 0 where
  pub from : ℕ
  pub label : Option (List ℕ)
  pub to : ℕ

-- the move with the text of its label, which it names by a place in the list
abbrev pub named : List (List ℕ) → RawMove → NamedMove
named labels m = record { from = m.from; label = option_map (text_at labels) m.label; to = m.to }

-- the moves read so far and the texts that they name
pub record Parts : Type 0 where
  pub moves : List RawMove
  pub labels : List (List ℕ)

-- the moves with the texts of their labels
abbrev pub named_moves : Parts → List NamedMove
named_moves p = map (named p.labels) p.moves

-- the texts are those of the moves' labels in the order of first use, and each move names one of them
pub record IsParts (p : Parts) : Type 0 where
  pub labels : AreLabelsOf p.moves p.labels
  pub counted : length p.labels ≤ length p.moves
  pub within : (k a : ℕ) → Carries p.moves k a → a < length p.labels

-- none of the texts is this one
abbrev pub Lacks : List (List ℕ) → List ℕ → Type 0
Lacks labels text = (k : ℕ) → k < length labels → ¬ (text_at labels k ≡ text)

-- the texts are distinct labels
pub record AreTexts (labels : List (List ℕ)) : Type 0 where
  pub texts : All IsLabel labels
  pub distinct : (j k : ℕ) → j < k → k < length labels → ¬ (text_at labels j ≡ text_at labels k)

-- the entries with the texts of their keys
abbrev pub texts_of : {K : Type 0} → (K → List ℕ) → List (K × ℕ) → List (List ℕ × ℕ)
texts_of text_in entries = map (λ e. (text_in e.0, e.1)) entries

-- the text stands at the place n
abbrev pub IsAt : List (List ℕ) → List ℕ → ℕ → Type 0
IsAt labels text n = (n < length labels) × (text_at labels n ≡ text)

-- the entries give the place of each text, and of no other
pub record ArePlaces (entries : List (List ℕ × ℕ)) (labels : List (List ℕ)) : Type 0 where
  pub found : (text : List ℕ) (n : ℕ) → lookup (bytes_eq text) entries ≡ Some n → IsAt labels text n
  pub lacks : (text : List ℕ) → lookup (bytes_eq text) entries ≡ None → Lacks labels text

-- n is the place of the text, which stood there before or is new at the end
abbrev pub IsNumber : List (List ℕ) → List (List ℕ) → List ℕ → ℕ → Type 0
IsNumber old new text n = ((new ≡ old) × (n < length old) × (text_at old n ≡ text)) ⊎ ((new ≡ old ++ text ∷ []) × (n ≡ length old) × Lacks old text)

-- the parts have this one more move, at the end
pub record AddsMove (old new : Parts) (m : NamedMove) : Type 0 where
  pub count : length new.moves ≡ length old.moves + 1
  pub moves : named_moves new ≡ named_moves old ++ m ∷ []
