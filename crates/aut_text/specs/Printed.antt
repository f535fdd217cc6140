-- Promise: the text of a system as an Aldebaran file.
use Rattle.std.specs.Prelude.{◌≡◌, ℕ, ◌<◌, ◌≤◌, false, List, [], ◌∷◌, ◌++◌, length, map, All, Option, Some, None, codes, decimal, nat_lt}
use Rattle.std.specs.List.{flat_map}
use Rattle.std.specs.Str.{bytes_eq}
use Rattle.lts_base.specs.declared.action.Act.{Act}
use Rattle.lts_base.specs.declared.action.Act.TheVariants.{Tau, Label}
use Rattle.lts_base.specs.declared.action.Move.{Move}
use Rattle.lts_base.specs.declared.sorting.Rule.{Rule}
use Rattle.lts_base.specs.declared.sorting.SplitError.{SplitError}
use Rattle.lts_base.specs.declared.sorting.SplitError.TheVariants.{Memory}
use Rattle.lts_base.specs.System.{System, IsSystem, refused}
use Rattle.lts_base.specs.Raw.{RawSystem, IsRaw}
use Rattle.lts_base.specs.Alphabet.{Alphabet, text_at}
use Rattle.lts_base.specs.Built.{move_at}
use Rattle.lts_base.specs.Sorting.{side_of, IsGoodLabel, RefusesSplit, IsAlphabetOf, AreSystemsFor}
use Rattle.aut_text.specs.Parts.{NamedMove}
use Rattle.aut_text.specs.Grammar.{has_moves, IsAut}
use Rattle.lts_base.specs.declared.limits.TheConstants.{MOST_MOVES, MOST_STATES}

-- the text of what a move carries
abbrev pub act_text : List (List ℕ) → Act → List ℕ
act_text texts Tau = codes "tau"
act_text texts (Label a) = text_at texts a

-- the line of a move with this label, and its LF
abbrev pub move_text : ℕ → List ℕ → ℕ → List ℕ
move_text from label to = codes "(" ++ decimal from ++ codes ",\"" ++ label ++ codes "\"," ++ decimal to ++ codes ")\n"

-- the line of a move of the system, and its LF
abbrev pub line_text : List (List ℕ) → Move → List ℕ
line_text texts m = move_text m.from (act_text texts m.act) m.to

-- the line of the header, and its LF
abbrev pub header_text : System → List ℕ
header_text s = codes "des (" ++ decimal s.start ++ codes "," ++ decimal (length s.moves) ++ codes "," ++ decimal s.states ++ codes ")\n"

-- the header, and then the moves in order
abbrev pub printed : Alphabet → System → List ℕ
printed a s = header_text s ++ flat_map (line_text a.texts) s.moves

-- the text of the label that a move carries; none is Tau
abbrev pub act_label : List (List ℕ) → Act → Option (List ℕ)
act_label texts Tau = None
act_label texts (Label a) = Some (text_at texts a)

-- the move with the text of its label
abbrev pub named_move : List (List ℕ) → Move → NamedMove
named_move texts m = record { from = m.from; label = act_label texts m.act; to = m.to }

-- the system of a file says what the system over the alphabet says: the same states and start, and the same moves by the
-- texts of their labels
pub record Says (a : Alphabet) (s : System) (r : RawSystem) : Type 0 where
  pub states : r.states ≡ s.states
  pub start : r.start ≡ s.start
  pub moves : has_moves r ≡ map (named_move a.texts) s.moves

-- the text isn't one of the two that a file has for Tau
pub record IsWritable (text : List ℕ) : Type 0 where
  pub no_i : bytes_eq text (codes "i") ≡ false
  pub no_tau : bytes_eq text (codes "tau") ≡ false

-- none of the texts is one that a file has for Tau
abbrev pub AreWritable : List (List ℕ) → Type 0
AreWritable texts = All IsWritable texts

-- a file has room for the system: at most 65,536 states and 1,048,576 moves
pub record FitsFile (s : System) : Type 0 where
  pub states : s.states ≤ MOST_STATES
  pub moves : length s.moves ≤ MOST_MOVES

-- the system's moves carry every label of the alphabet
abbrev pub UsesAll : Alphabet → System → Type 0
UsesAll a s = (k : ℕ) → k < length a.texts → (j : ℕ) × (j < length s.moves) × ((move_at s.moves j).act ≡ Label k)

-- the rule lets each label of the alphabet through, and sorts exactly the alphabet's inputs to the inputs
pub record IsSortedBy (rule : Rule) (a : Alphabet) : Type 0 where
  pub good : All (IsGoodLabel rule) a.texts
  pub sides : (k : ℕ) → k < length a.texts → side_of rule (text_at a.texts k) ≡ Some (nat_lt k a.inputs)

-- split by the rule, the system of a file is refused for want of memory alone; it gives this alphabet and this system,
-- and no others
pub record SplitsInto (rule : Rule) (r : RawSystem) (a : Alphabet) (s : System) : Type 0 where
  pub refused : (e : SplitError) → RefusesSplit rule (r ∷ []) e → e ≡ Memory
  pub alphabet : IsAlphabetOf rule (r ∷ []) a
  pub systems : AreSystemsFor a (r ∷ []) (s ∷ [])
  pub only : (b : Alphabet) (t : System) → IsAlphabetOf rule (r ∷ []) b → AreSystemsFor b (r ∷ []) (t ∷ []) → IsSystem t → (b ≡ a) × (t ≡ s)

-- split by the rule, each raw system that the text is a file of gives this alphabet and this system, read so that cycles of internal
-- moves mean nothing
abbrev pub SplitsBy : Rule → Alphabet → System → List ℕ → Type 0
SplitsBy rule a s text = (r : RawSystem) → IsAut text r → IsRaw r → SplitsInto rule r a (refused s)

-- where the system fits a file and uses all labels, so does each rule that sorts the labels
abbrev pub SplitsAgain : Alphabet → System → List ℕ → Type 0
SplitsAgain a s text = FitsFile s → UsesAll a s → (rule : Rule) → IsSortedBy rule a → SplitsBy rule a s text
