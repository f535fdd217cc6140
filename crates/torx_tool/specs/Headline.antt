-- Promise: for two files that can be compared, when `check` answers that the implementation conforms, and when that it doesn't.
use Rattle.std.specs.Prelude.{◌≡◌, ℕ, ◌<◌, List, [], ◌∷◌, length, Some, Ok, ◌⊎◌}
use Rattle.edge_io.specs.Outside.{ToldSink, AppendsTo}
use Rattle.lts_base.specs.declared.item.Item.{Item}
use Rattle.lts_base.specs.System.{System, label_count}
use Rattle.lts_base.specs.Alphabet.{Alphabet}
use Rattle.lts_base.specs.Conformance.{IsConforming}
use Rattle.lts_base.specs.Order.{IsAtMost, IsFirstViolation}
use Rattle.lts_base.specs.Reached.{Row, trace_at, AreFirstPairs, AreReachedPairs, IsWithin}
use Rattle.conf_decide.specs.declared.answer.What.{What}
use Rattle.conf_decide.specs.declared.answer.Answer.{Answer}
use Rattle.conf_decide.specs.Decided.{IsCut, IsDecided}
use Rattle.torx_words.specs.Accepted.{asked}
use Rattle.tool_base.specs.Contents.{Contents, AreTold}
use Rattle.tool_base.specs.Sources.{AreSystems, all_names}
use Rattle.cmd_check.specs.declared.outcome.CheckOutcome.{CheckOutcome}
use Rattle.cmd_check.specs.declared.outcome.CheckOutcome.TheVariants.{Conforms, Violates, Undecided}
use Rattle.cmd_check.specs.Asked.{AskedCheck, check_shape, check_of, check_sources, limits_asked}
use Rattle.cmd_check.specs.Check.{outcome_of, answer_text, IsAble}
use Rattle.torx_tool.specs.declared.commands.Name.TheVariants.{Check}
use Rattle.torx_tool.specs.declared.status.Status.{Status}
use Rattle.torx_tool.specs.Commands.{named, check_status}
use Rattle.torx_tool.specs.Status.{IsFailure}

-- the words ask for `check`, and for this of it
abbrev pub AskForCheck : List (List ℕ) → AskedCheck → Type 0
AskForCheck [] q = ⊥
AskForCheck (first ∷ others) q = (named first ≡ Some Check) × (asked check_shape check_of others ≡ Ok q)

-- the words ask for `check`; the contents of all files are told, and are read as the specification s and the implementation i over
-- the alphabet a; and i is input-enabled, if it has to be
pub record IsComparable (contents : Contents) (words : List (List ℕ)) (q : AskedCheck) (a : Alphabet) (s i : System) : Type 0 where
  pub asks : AskForCheck words q
  pub told : AreTold contents (all_names (check_sources q))
  pub systems : AreSystems contents (check_sources q) a (s ∷ i ∷ [])
  pub able : IsAble q i

-- no front of the reached pairs passes the limits
abbrev pub HasRoom : AskedCheck → System → System → Type 0
HasRoom q s i = (rows : List Row) (traces : List (List Item)) → AreFirstPairs q.mode i s rows traces → IsWithin (limits_asked q) rows

-- no front of the reached pairs whose least traces come up to this one passes the limits
abbrev pub HasRoomUpTo : AskedCheck → System → System → List Item → Type 0
HasRoomUpTo q s i σ = (rows : List Row) (traces : List (List Item)) → AreFirstPairs q.mode i s rows traces →
    ((k : ℕ) → k < length rows → IsAtMost (label_count s) (trace_at traces k) σ) → IsWithin (limits_asked q) rows

-- i conforms to s, and n is the number of the reached pairs
pub record IsConformingBy (q : AskedCheck) (s i : System) (n : ℕ) : Type 0 where
  pub conforming : IsConforming q.mode i s
  pub rows : List Row
  pub traces : List (List Item)
  pub reached : AreReachedPairs q.mode i s rows traces
  pub number : n ≡ length rows

-- the decision is cut by this limit
abbrev pub IsCutBy : AskedCheck → System → System → What → ℕ → ℕ → Type 0
IsCutBy q s i what reached depth = (rows : List Row) × (traces : List (List Item)) × IsCut q.mode (limits_asked q) i s what reached depth rows traces

-- the outcome is right: i conforms to s; or this is the first violation; or the decision is cut
abbrev pub IsRight : AskedCheck → System → System → CheckOutcome → Type 0
IsRight q s i (Conforms n) = IsConformingBy q s i n
IsRight q s i (Violates σ x) = IsFirstViolation q.mode i s σ x
IsRight q s i (Undecided what reached depth) = IsCutBy q s i what reached depth
IsRight q s i other = ⊥

-- the text tells the outcome: it is the usual text, or under `--cert` that of the certificate of a right answer with this outcome
abbrev pub Tells : AskedCheck → Alphabet → System → System → CheckOutcome → List ℕ → Type 0
Tells q a s i outcome text = (answer : Answer) × IsDecided q.mode (limits_asked q) i s answer × (outcome ≡ outcome_of answer) ×
    (text ≡ answer_text q a.texts answer)

-- the answer is this outcome, and a text that tells it was printed
pub record Prints (q : AskedCheck) (a : Alphabet) (s i : System) (outcome : CheckOutcome) (old new : ToldSink) (status : Status) : Type 0 where
  pub answer : status ≡ check_status outcome
  pub text : List ℕ
  pub tells : Tells q a s i outcome text
  pub printed : AppendsTo old new text

-- but for failures, a right outcome is answered and printed; with room a system that conforms is found to; with room up to the first
-- violation that is found
pub record IsSettled (q : AskedCheck) (a : Alphabet) (s i : System) (old new : ToldSink) (status : Status) : Type 0 where
  pub right : ((outcome : CheckOutcome) × IsRight q s i outcome × Prints q a s i outcome old new status) ⊎ IsFailure status
  pub conforms : IsConforming q.mode i s → HasRoom q s i →
      ((n : ℕ) × IsConformingBy q s i n × Prints q a s i (Conforms n) old new status) ⊎ IsFailure status
  pub violates : (σ : List Item) (x : Item) → IsFirstViolation q.mode i s σ x → HasRoomUpTo q s i σ →
      Prints q a s i (Violates σ x) old new status ⊎ IsFailure status
  pub cut : (what : What) (reached depth : ℕ) → status ≡ check_status (Undecided what reached depth) → ¬ HasRoom q s i

-- whichever two files can be compared, the answer settles the matter
abbrev pub IsHeadline : Contents → List (List ℕ) → ToldSink → ToldSink → Status → Type 0
IsHeadline contents words old new status =
    (q : AskedCheck) (a : Alphabet) (s i : System) → IsComparable contents words q a s i → IsSettled q a s i old new status
