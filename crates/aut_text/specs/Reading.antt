-- Private: what the pieces of the reader say to each other.
use Rattle.std.specs.Prelude.{◌≡◌, ℕ, ◌+◌, ◌<◌, Bool, true, false, List, [], ◌∷◌, ◌++◌, length, Option, Some, None, Result, MatchResult, ◌⊎◌}
use Rattle.lts_base.specs.Alphabet.{IsLabel}
use Rattle.lts_base.specs.Raw.{RawSystem}
use Rattle.text_scan.specs.Lines.{lines_of}
use Rattle.aut_text.specs.declared.header.Header.{Header}
use Rattle.aut_text.specs.declared.error.AutError.{AutError}
use Rattle.aut_text.specs.declared.error.AutError.TheVariants.{Header as BadHeader, Line, Count}
use Rattle.aut_text.specs.Parts.{NamedMove, Parts, named_moves}
use Rattle.aut_text.specs.Form.{Written}
use Rattle.aut_text.specs.Grammar.{is_text, IsHeaderLine, IsWrittenLine, IsMoveLine}
use Rattle.aut_text.specs.Faults.{IsHeaderFault, IsLineFault, RefusesAut}
use Rattle.aut_text.specs.Shown.{IsShownOrMemory}
use Rattle.aut_text.specs.Pieces.{Standing, Kept, Pieces, IsKept, IsRead, StandsAfter}
use Rattle.lts_base.specs.declared.limits.TheConstants.{MOST_LINE_BYTES, MOST_MOVES}

-- the line writes the move with a label's text, and so many moves before it leave room for it
pub record IsNextMove (states count : ℕ) (line : List ℕ) (w : Written) : Type 0 where
  pub line_is : IsWrittenLine states line w
  pub label : IsLabel w.label
  pub room : count < MOST_MOVES

-- the moves with that of the line, if it isn't blank
abbrev pub AddsLine : ℕ → List ℕ → List NamedMove → List NamedMove → Type 0
AddsLine states line old new =
    ((is_text line ≡ false) × (new ≡ old)) ⊎
    ((is_text line ≡ true) × ((m : NamedMove) × IsMoveLine states line m × (new ≡ old ++ m ∷ []) × (length old < MOST_MOVES)))

-- the move's ends are below the number of states
abbrev pub IsWithin : ℕ → NamedMove → Type 0
IsWithin states m = (m.from < states) × (m.to < states)

-- the raw system has what the header says and these parts, which are as many moves as it says
abbrev pub IsFinished : Header → Parts → RawSystem → Type 0
IsFinished header parts raw = (raw ≡ record { states = header.states; start = header.start; labels = parts.labels; moves = parts.moves }) ×
    (length parts.moves ≡ header.transitions)

-- the moves are more or fewer than the header says
abbrev pub IsMiscount : Header → Parts → AutError → Type 0
IsMiscount header parts error = (error ≡ Count header.transitions (length parts.moves)) × ¬ (header.transitions ≡ length parts.moves)

-- the line is blank, or it is the header
abbrev pub ReadsHead : List ℕ → Option Header → Type 0
ReadsHead line None = is_text line ≡ false
ReadsHead line (Some h) = (is_text line ≡ true) × IsHeaderLine line h

-- what stands after the line: the header, where it is the first line with text, or else one more move, or nothing new
abbrev pub StepsBy : Option Header → Parts → List ℕ → Option Header → Parts → Type 0
StepsBy None parts line head new = ReadsHead line head × (new ≡ parts)
StepsBy (Some h) parts line head new = (head ≡ Some h) × AddsLine h.states line (named_moves parts) (named_moves new)

pub record Steps (old : Standing) (line : List ℕ) (new : Standing) : Type 0 where
  pub number : new.number ≡ old.number + 1
  pub parts : StepsBy old.head old.parts line new.head new.parts

-- the fault of line n, which has text: of the header, where there is none yet, or else of a move's line
abbrev pub IsFaultBy : Option Header → Parts → ℕ → List ℕ → AutError → Type 0
IsFaultBy None parts n line e = IsHeaderFault line e
IsFaultBy (Some h) parts n line e = IsLineFault h.states (length parts.moves) line n e

abbrev pub IsNextFault : Standing → List ℕ → AutError → Type 0
IsNextFault s line e = (is_text line ≡ true) × IsFaultBy s.head s.parts (s.number + 1) line e

-- the fault of line n where it is too long
abbrev pub too_long_by : Option Header → ℕ → AutError
too_long_by None n = BadHeader
too_long_by (Some h) n = Line n

-- the line goes on with these bytes; false: it is too long then, and isn't blank
abbrev pub GoesOn : List ℕ → Kept → Bool → Type 0
GoesOn line kept true = IsKept line kept
GoesOn line kept false = (MOST_LINE_BYTES < length line) × (is_text line ≡ true)

-- whatever was read, the bytes are read after it, or the answer is the fault that is shown then
abbrev pub ReadsOn : {A : Type 0} → Pieces → List ℕ → Pieces → Result A AutError → Type 0
ReadsOn old bytes new result = (content : List ℕ) → IsRead content old → MatchResult result (λ _. IsRead (content ++ bytes) new) (IsShownOrMemory (content ++ bytes))

-- whatever was read, where it is the whole content its lines were all read, or the answer is why it is refused
abbrev pub ReadsLast : {A : Type 0} → Pieces → Pieces → Result A AutError → Type 0
ReadsLast old new result = (content : List ℕ) → IsRead content old → MatchResult result (λ _. StandsAfter (lines_of content) new.standing) (RefusesAut content)
