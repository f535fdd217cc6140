-- Private: words for the way from raw systems to systems, which the private functions of `split` speak in.
use Rattle.std.specs.Prelude.{◌≡◌, ℕ, ◌<◌, ◌≤◌, Bool, true, false, not, List, length, map, All, Contains, Option, Some, None, slice_index_or as get_or, ◌⊎◌}
use Rattle.std.specs.Borrow.{Bor}
use Rattle.std.specs.List.{filter}
use Rattle.lts_base.specs.declared.action.Act.{Act}
use Rattle.lts_base.specs.declared.action.Act.TheVariants.{Tau, Label}
use Rattle.lts_base.specs.declared.action.Move.{Move}
use Rattle.lts_base.specs.declared.raw.RawMove.{RawMove}
use Rattle.lts_base.specs.declared.limits.TheConstants.{MOST_LABELS}
use Rattle.lts_base.specs.declared.sorting.Rule.{Rule}
use Rattle.lts_base.specs.declared.sorting.Rule.TheVariants.{Listed}
use Rattle.lts_base.specs.declared.sorting.SplitError.{SplitError}
use Rattle.lts_base.specs.declared.sorting.SplitError.TheVariants.{Memory}
use Rattle.lts_base.specs.Alphabet.{Alphabet, AreRising, IsLabel, text_at}
use Rattle.lts_base.specs.Raw.{RawSystem}
use Rattle.lts_base.specs.Sorting.{side_of, all_labels, IsGoodLabel, IsFirstLabelFault}

-- the texts that references show
abbrev pub shown : List (Bor (List ℕ)) → List (List ℕ)
shown = map (λ (t : Bor (List ℕ)). t.now)

-- where the label's mark sorts it; a rule by a list goes by no mark
abbrev pub marked_side : Rule → List ℕ → Option Bool
marked_side (Listed inputs) text = None
marked_side rule text = side_of rule text

-- whether what the rule said is this side
abbrev pub is_side : Bool → Option Bool → Bool
is_side b None = false
is_side true (Some input) = input
is_side false (Some input) = not input

-- whether the rule sorts the label to the inputs
abbrev pub is_input : Rule → List ℕ → Bool
is_input rule text = is_side true (side_of rule text)

-- the texts are the labels of the systems, which are good: each once, in the order of their bytes, and not too many
pub record AreDistinctLabels (rule : Rule) (raws : List RawSystem) (texts : List (List ℕ)) : Type 0 where
  pub good : All (IsGoodLabel rule) (all_labels raws)
  pub labels : All IsLabel (all_labels raws)
  pub rising : AreRising texts
  pub each : All (Contains (all_labels raws)) texts
  pub all : All (Contains texts) (all_labels raws)
  pub few : length texts ≤ MOST_LABELS

-- the texts with the flag are the inputs, and the others the outputs
abbrev pub AreFlagged : List (List ℕ) → List Bool → List (List ℕ) → List (List ℕ) → Type 0
AreFlagged texts flags ins outs = (p : List ℕ → Bool) → flags ≡ map p texts → (ins ≡ filter p texts) × (outs ≡ filter (λ t. not (p t)) texts)

-- memory ran out, or one of the texts is the first at fault
abbrev pub IsFaultAmong : Rule → List (List ℕ) → SplitError → Type 0
IsFaultAmong rule texts e = (e ≡ Memory) ⊎ ((k : ℕ) × IsFirstLabelFault rule texts k e)

-- the numbers are those of the texts in the alphabet, one by one
pub record AreNumbersOf (a : Alphabet) (texts : List (List ℕ)) (numbers : List ℕ) : Type 0 where
  pub long : length numbers ≡ length texts
  pub each : (k : ℕ) → k < length texts → (get_or numbers k 0 < length a.texts) × (text_at a.texts (get_or numbers k 0) ≡ text_at texts k)

abbrev pub IsBelow : ℕ → Option ℕ → Type 0
IsBelow n None = Unit {0}
IsBelow n (Some a) = a < n

-- the move's label, if it has one, is below n
abbrev pub HasLabelBelow : ℕ → RawMove → Type 0
HasLabelBelow n m = IsBelow n m.label

-- the label by its number in the alphabet
abbrev pub renumbered_act : List ℕ → Option ℕ → Act
renumbered_act numbers None = Tau
renumbered_act numbers (Some a) = Label (get_or numbers a 0)

-- the move with the numbers of the alphabet
abbrev pub renumbered : List ℕ → RawMove → Move
renumbered numbers m = record { from = m.from; act = renumbered_act numbers m.label; to = m.to }
