-- Promise: which fault the bytes of an Aldebaran file show, whatever follows them.
use Rattle.std.specs.Prelude.{◌≡◌, ℕ, ◌+◌, ◌<◌, ◌≤◌, true, List, [], ◌∷◌, ◌++◌, length, filter, ◌⊎◌}
use Rattle.text_scan.specs.Cut.{Lacks}
use Rattle.text_scan.specs.Lines.{lines_of}
use Rattle.aut_text.specs.declared.header.Header.{Header}
use Rattle.aut_text.specs.declared.error.AutError.{AutError}
use Rattle.aut_text.specs.declared.error.AutError.TheVariants.{Header as BadHeader, Line, Memory}
use Rattle.aut_text.specs.Parts.{NamedMove}
use Rattle.aut_text.specs.Grammar.{is_text, IsHeaderLine, AreMoves}
use Rattle.aut_text.specs.Faults.{IsHeadFault, IsLaterFault}
use Rattle.lts_base.specs.declared.limits.TheConstants.{MOST_LINE_BYTES, MOST_MOVES}

-- a line of the content is at fault, and the first such line in this way
abbrev pub MeetsFault : List ℕ → AutError → Type 0
MeetsFault content e = IsHeadFault content e ⊎ IsLaterFault content e

-- the lines are blank ones, the header and those of the moves, which aren't too many
pub record IsUnderWay (lines : List (List ℕ)) (h : Header) (moves : List NamedMove) : Type 0 where
  pub blanks : List (List ℕ)
  pub head : List ℕ
  pub others : List (List ℕ)
  pub lines_are : lines ≡ blanks ++ head ∷ others
  pub blank : filter is_text blanks ≡ []
  pub text : is_text head ≡ true
  pub header : IsHeaderLine head h
  pub moves_are : AreMoves h.states others moves
  pub few : length moves ≤ MOST_MOVES

-- the fault of a line that is too long, which follows lines without a fault: that of a header, where they are blank, or else that of
-- a move's line
abbrev pub IsTooLongAfter : List (List ℕ) → AutError → Type 0
IsTooLongAfter lines BadHeader = filter is_text lines ≡ []
IsTooLongAfter lines (Line n) = (n ≡ length lines + 1) × ((h : Header) × (moves : List NamedMove) × IsUnderWay lines h moves)
IsTooLongAfter lines other = ⊥

-- there are no bytes, or the last one is an LF
abbrev pub IsEnded : List ℕ → Type 0
IsEnded bytes = (bytes ≡ []) ⊎ ((front : List ℕ) × (bytes ≡ front ++ 10 ∷ []))

-- the content begins with whole lines, and these meet the fault
pub record ShowsInLines (content : List ℕ) (e : AutError) : Type 0 where
  pub whole : List ℕ
  pub rest : List ℕ
  pub joined : content ≡ whole ++ rest
  pub ended : IsEnded whole
  pub fault : MeetsFault whole e

-- the content begins with whole lines that meet no fault, and then has more than 4,096 bytes of a line that isn't blank
pub record ShowsTooLong (content : List ℕ) (e : AutError) : Type 0 where
  pub whole : List ℕ
  pub line : List ℕ
  pub rest : List ℕ
  pub joined : content ≡ whole ++ (line ++ rest)
  pub ended : IsEnded whole
  pub unfinished : Lacks 10 line
  pub long : MOST_LINE_BYTES < length line
  pub text : is_text line ≡ true
  pub fault : IsTooLongAfter (lines_of whole) e

-- the content shows the fault: its whole lines do, or an unfinished line that is too long and isn't blank
abbrev pub Shows : List ℕ → AutError → Type 0
Shows content e = (¬ (e ≡ Memory)) × (ShowsInLines content e ⊎ ShowsTooLong content e)

-- the content shows no fault
abbrev pub ShowsNone : List ℕ → Type 0
ShowsNone content = (e : AutError) → ¬ Shows content e

-- the content shows the fault, or memory ran out
abbrev pub IsShownOrMemory : List ℕ → AutError → Type 0
IsShownOrMemory content e = (e ≡ Memory) ⊎ Shows content e
