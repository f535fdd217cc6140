-- Promise: what a link meets whose lines come over a stream, by the answers of the stream's reads.
use Rattle.std.specs.Prelude.{◌≡◌, ℕ, ◌+◌, ◌-◌, ◌==◌, Bool, true, false, List, [], ◌∷◌, ◌++◌, length, take, slice_index_or as get_or, if◌then◌else◌, Option, None}
use Rattle.edge_io.specs.declared.act.TheConstants.{MOST_HEARD_BYTES}
use Rattle.edge_io.specs.declared.act.Act.{Act}
use Rattle.edge_io.specs.declared.act.Act.TheVariants.{Looked, Listened, Gave}
use Rattle.edge_io.specs.declared.act.Heard.{Heard}
use Rattle.edge_io.specs.declared.act.Heard.TheVariants.{Line, Idle, IdleMid, TooLong, End}
use Rattle.edge_io.specs.declared.content.Given.{Given}
use Rattle.edge_io.specs.declared.content.Given.TheVariants.{Bytes as GivenBytes, Idle as GivenIdle, End as GivenEnd}
use Rattle.edge_io.specs.Links.{IsWithinLine, ToldLink}
use Rattle.edge_io.specs.Outside.{Gains}
use Rattle.edge_io.specs.Streams.{ToldStream}
use Rattle.edge_io.specs.StreamsInMemory.{bytes_of}

-- the line without one CR at its end
abbrev pub without_cr : List ℕ → List ℕ
without_cr line = if get_or line (length line - 1) 0 == 13 then take (length line - 1) line else line

-- less than a line, and not too long for one
abbrev pub IsUnfinished : List ℕ → Type 0
IsUnfinished bytes = IsWithinLine MOST_HEARD_BYTES bytes

-- the bytes begin with a line, which isn't too long, and after its LF come these
pub record BeginsWith (bytes line rest : List ℕ) : Type 0 where
  pub whole : bytes ≡ line ++ 10 ∷ rest
  pub within : IsWithinLine MOST_HEARD_BYTES line

-- the bytes begin with a line, of which this is the text, and then come these
abbrev pub IsFirstLine : List ℕ → List ℕ → List ℕ → Type 0
IsFirstLine bytes text rest = (line : List ℕ) × BeginsWith bytes line rest × (text ≡ without_cr line)

-- the first bytes, which are one more than a line may have, hold no LF
abbrev pub IsTooLong : List ℕ → List ℕ → Type 0
IsTooLong bytes text = IsWithinLine (MOST_HEARD_BYTES + 1) text × (length text ≡ MOST_HEARD_BYTES + 1) × (text ≡ take (MOST_HEARD_BYTES + 1) bytes)

-- all the bytes are an unfinished line
abbrev pub IsRest : List ℕ → List ℕ → Type 0
IsRest bytes text = IsUnfinished bytes × (text ≡ bytes)

-- what bytes at hand give without a read, with this text, and the bytes that are left; where the stream has ended, the end
abbrev pub Has : List ℕ → Bool → Heard → List ℕ → List ℕ → Type 0
Has bytes is_over Line text rest = IsFirstLine bytes text rest
Has bytes is_over TooLong text rest = IsTooLong bytes text × (rest ≡ bytes)
Has bytes is_over End text rest = (is_over ≡ true) × IsRest bytes text × (rest ≡ bytes)
Has bytes is_over Idle text rest = ⊥
Has bytes is_over IdleMid text rest = ⊥

-- what an idle read meets with these bytes at hand
abbrev pub Waits : List ℕ → Heard → List ℕ → Type 0
Waits bytes Idle text = (bytes ≡ []) × (text ≡ [])
Waits bytes IdleMid text = ¬ (bytes ≡ []) × (text ≡ bytes)
Waits bytes Line text = ⊥
Waits bytes TooLong text = ⊥
Waits bytes End text = ⊥

-- with bytes at hand and answers of the stream this is met, with this text; what is left then, and whether the stream has ended
-- the stream is read only where the bytes at hand give nothing, and no more after an idle read or the end
abbrev pub Hears : List ℕ → Bool → List Given → Heard → List ℕ → List ℕ → Bool → Type 0
Hears bytes is_over [] heard text rest ended = Has bytes is_over heard text rest × (ended ≡ is_over)
Hears bytes is_over (GivenBytes more ∷ answers) heard text rest ended =
    IsUnfinished bytes × (is_over ≡ false) × Hears (bytes ++ more) false answers heard text rest ended
Hears bytes is_over (GivenIdle ∷ answers) heard text rest ended =
    IsUnfinished bytes × (is_over ≡ false) × (answers ≡ []) × Waits bytes heard text × (rest ≡ bytes) × (ended ≡ false)
Hears bytes is_over (GivenEnd ∷ answers) heard text rest ended =
    IsUnfinished bytes × (is_over ≡ false) × (answers ≡ []) × (heard ≡ End) × (text ≡ bytes) × (rest ≡ bytes) × (ended ≡ true)

-- what a link over a stream holds: the bytes at hand, whether the stream has ended, and what the stream tells of its
-- answers and of what was written
pub record Pending : Type 0 where
  pub bytes : List ℕ
  pub is_over : Bool
  pub answers : Option (List Given)
  pub written : Option (List ℕ)

abbrev pub pending : ToldStream → List ℕ → Bool → Pending
pending told bytes is_over = record { bytes = bytes; is_over = is_over; answers = told.answers; written = told.written }

-- what is met is what some answers of the stream give, and it tells those where it tells answers; nothing is written
abbrev pub IsHeard : Pending → Heard → List ℕ → Pending → Type 0
IsHeard s heard text t =
    (answers : List Given) × Gains s.answers t.answers answers × Hears s.bytes s.is_over answers heard text t.bytes t.is_over × (t.written ≡ s.written)

-- the text and LF are written, and nothing is read
abbrev pub IsSent : Pending → List ℕ → Pending → Type 0
IsSent s text t = (t.bytes ≡ s.bytes) × (t.is_over ≡ s.is_over) × (t.answers ≡ s.answers) × Gains s.written t.written (text ++ 10 ∷ [])

-- an act leads from one state to another
abbrev pub GivesLine : Pending → Act → Pending → Type 0
GivesLine s (Looked heard text) t = IsHeard s heard text t
GivesLine s (Listened heard text) t = IsHeard s heard text t
GivesLine s (Gave text) t = IsSent s text t

-- a link over a stream: the stream, the bytes at hand, whether the stream has ended, and the text of the last answer
pub record OverStream (S : Type 0) : Type 0 where
  pub stream : S
  pub bytes : List ℕ
  pub is_over : Bool
  pub said : List ℕ

-- a link over a stream before its first call
abbrev pub new_over : {S : Type 0} → S → OverStream S
new_over stream = record { stream = stream; bytes = []; is_over = false; said = [] }

abbrev pub pending_over : {S : Type 0} → (S → ToldStream) → OverStream S → Pending
pending_over told link = pending (told link.stream) link.bytes link.is_over

-- it keeps no acts, and its counts are those of the stream
abbrev pub told_over : {S : Type 0} → (S → ToldStream) → OverStream S → ToldLink
told_over told link = record { acts = None; said = link.said; faults = (told link.stream).faults; idles = (told link.stream).idles }

-- the bytes of the answers, one after the other
abbrev pub joined : List Given → List ℕ
joined [] = []
joined (answer ∷ answers) = bytes_of answer ++ joined answers

-- what is met of these bytes, however they were cut, with this text, and the bytes that are left
abbrev pub IsMet : Heard → List ℕ → List ℕ → List ℕ → Type 0
IsMet Line bytes text rest = IsFirstLine bytes text rest
IsMet TooLong bytes text rest = IsTooLong bytes text × (rest ≡ bytes)
IsMet End bytes text rest = IsRest bytes text × (rest ≡ bytes)
IsMet IdleMid bytes text rest = ¬ (bytes ≡ []) × IsRest bytes text × (rest ≡ bytes)
IsMet Idle bytes text rest = (bytes ≡ []) × (text ≡ []) × (rest ≡ bytes)

-- what is met, with its text, what is left then, and whether the stream has ended
pub record Meeting : Type 0 where
  pub heard : Heard
  pub text : List ℕ
  pub rest : List ℕ
  pub ended : Bool

-- with bytes at hand and answers of the stream this is met
abbrev pub Meets : List ℕ → Bool → List Given → Meeting → Type 0
Meets bytes is_over answers m = Hears bytes is_over answers m.heard m.text m.rest m.ended
