-- Promise: how labels are sorted into inputs and outputs, and how raw systems become systems over one alphabet.
use Rattle.std.specs.Prelude.{◌≡◌, ℕ, ◌-◌, ◌<◌, Bool, true, false, ◌==◌, List, [], length, take, All, Contains, Option, Some, None, IsSome, if◌then◌else◌, nat_lt, slice_index_or as get_or}
use Rattle.std.specs.List.{flat_map, list_any}
use Rattle.std.specs.List.Sorted.{IsPermutation}
use Rattle.std.specs.Str.{bytes_eq}
use Rattle.lts_base.specs.declared.action.Act.{Act}
use Rattle.lts_base.specs.declared.action.Act.TheVariants.{Tau, Label}
use Rattle.lts_base.specs.declared.action.Move.{Move}
use Rattle.lts_base.specs.declared.divergence.Divergence.TheVariants.{Refuse}
use Rattle.lts_base.specs.declared.raw.RawMove.{RawMove}
use Rattle.lts_base.specs.declared.sorting.Rule.{Rule}
use Rattle.lts_base.specs.declared.sorting.Rule.TheVariants.{Prefix, Suffix, Listed}
use Rattle.lts_base.specs.declared.sorting.SplitError.{SplitError}
use Rattle.lts_base.specs.declared.sorting.SplitError.TheVariants.{Unsorted, Reserved, TooManyLabels, Memory}
use Rattle.lts_base.specs.declared.limits.TheConstants.{MOST_LABELS}
use Rattle.lts_base.specs.System.{System}
use Rattle.lts_base.specs.Alphabet.{Alphabet, IsAlphabet, text_at, is_reserved}
use Rattle.lts_base.specs.Built.{move_at}
use Rattle.lts_base.specs.Raw.{RawSystem, raw_move_at}

-- a mark sorts as an input where it is `?`, as an output where it is `!`, and else not at all
abbrev pub side_of_mark : ℕ → Option Bool
side_of_mark mark = if mark == 63 then Some true else if mark == 33 then Some false else None

-- where the rule sorts a label: to the inputs (true), to the outputs (false) or nowhere
abbrev pub side_of : Rule → List ℕ → Option Bool
side_of Prefix text = side_of_mark (get_or text 0 0)
side_of Suffix text = side_of_mark (get_or text (length text - 1) 0)
side_of (Listed inputs) text = Some (list_any (bytes_eq text) inputs)

-- the label isn't reserved, and the rule sorts it
pub record IsGoodLabel (rule : Rule) (text : List ℕ) : Type 0 where
  pub free : is_reserved text ≡ false
  pub sorted : IsSome (side_of rule text)

-- the label is at fault: it is reserved, or else the rule sorts it nowhere
abbrev pub IsLabelFault : Rule → List ℕ → SplitError → Type 0
IsLabelFault rule text (Reserved told) = (told ≡ text) × (is_reserved text ≡ true)
IsLabelFault rule text (Unsorted told) = (told ≡ text) × (is_reserved text ≡ false) × (side_of rule text ≡ None)
IsLabelFault rule text TooManyLabels = ⊥
IsLabelFault rule text Memory = ⊥

-- the labels of all systems, in the order of the systems and then of first use
abbrev pub all_labels : List RawSystem → List (List ℕ)
all_labels raws = flat_map (λ (r : RawSystem). r.labels) raws

-- label number k is at fault, and none before it is
pub record IsFirstLabelFault (rule : Rule) (texts : List (List ℕ)) (k : ℕ) (e : SplitError) : Type 0 where
  pub before : All (IsGoodLabel rule) (take k texts)
  pub below : k < length texts
  pub fault : IsLabelFault rule (text_at texts k) e

-- these are more than n distinct texts of the list
pub record AreMoreThan (n : ℕ) (texts all : List (List ℕ)) : Type 0 where
  pub many : n < length texts
  pub distinct : (j k : ℕ) → j < k → k < length texts → ¬ (text_at texts j ≡ text_at texts k)
  pub each : All (Contains all) texts

-- why the systems can't be split: the first label at fault; or no label is, and there are more than `MOST_LABELS` of them
abbrev pub RefusesSplit : Rule → List RawSystem → SplitError → Type 0
RefusesSplit rule raws (Reserved told) = (k : ℕ) × IsFirstLabelFault rule (all_labels raws) k (Reserved told)
RefusesSplit rule raws (Unsorted told) = (k : ℕ) × IsFirstLabelFault rule (all_labels raws) k (Unsorted told)
RefusesSplit rule raws TooManyLabels = All (IsGoodLabel rule) (all_labels raws) × ((texts : List (List ℕ)) × AreMoreThan MOST_LABELS texts (all_labels raws))
RefusesSplit rule raws Memory = Unit {0}

-- the alphabet has exactly the labels of the systems, and its inputs are those that the rule sorts so
pub record IsAlphabetOf (rule : Rule) (raws : List RawSystem) (a : Alphabet) : Type 0 where
  pub alphabet : IsAlphabet a
  pub good : All (IsGoodLabel rule) (all_labels raws)
  pub each : All (Contains (all_labels raws)) a.texts
  pub all : All (Contains a.texts) (all_labels raws)
  pub sides : (k : ℕ) → k < length a.texts → side_of rule (text_at a.texts k) ≡ Some (nat_lt k a.inputs)

-- what a raw move carries, by the number that its label's text has in the alphabet
abbrev pub IsActFor : Alphabet → List (List ℕ) → Option ℕ → Act → Type 0
IsActFor a labels None act = act ≡ Tau
IsActFor a labels (Some n) act = (k : ℕ) × (act ≡ Label k) × (k < length a.texts) × (text_at a.texts k ≡ text_at labels n)

-- the move is the raw move over the alphabet
pub record IsMoveFor (a : Alphabet) (labels : List (List ℕ)) (m : RawMove) (n : Move) : Type 0 where
  pub from : n.from ≡ m.from
  pub to : n.to ≡ m.to
  pub act : IsActFor a labels m.label n.act

-- the moves are the raw moves over the alphabet, one by one
pub record AreMovesFor (a : Alphabet) (r : RawSystem) (moves : List Move) : Type 0 where
  pub long : length moves ≡ length r.moves
  pub each : (k : ℕ) → k < length r.moves → IsMoveFor a r.labels (raw_move_at r.moves k) (move_at moves k)

-- the system is the raw system over the alphabet; cycles of moves with Tau mean nothing in it
pub record IsSystemFor (a : Alphabet) (r : RawSystem) (s : System) : Type 0 where
  pub states : s.states ≡ r.states
  pub start : s.start ≡ r.start
  pub inputs : s.inputs ≡ a.inputs
  pub outputs : s.outputs ≡ length a.texts - a.inputs
  pub divergence : s.divergence ≡ Refuse
  pub moves : (moves : List Move) × AreMovesFor a r moves × IsPermutation moves s.moves

abbrev pub raw_at : List RawSystem → ℕ → RawSystem
raw_at raws k = get_or raws k (record { states = 0; start = 0; labels = []; moves = [] })

abbrev pub system_at : List System → ℕ → System
system_at systems k = get_or systems k (record { states = 0; start = 0; inputs = 0; outputs = 0; divergence = Refuse; moves = [] })

-- one system for each raw one, in order
pub record AreSystemsFor (a : Alphabet) (raws : List RawSystem) (systems : List System) : Type 0 where
  pub long : length systems ≡ length raws
  pub each : (k : ℕ) → k < length raws → IsSystemFor a (raw_at raws k) (system_at systems k)
