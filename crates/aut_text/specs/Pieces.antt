-- Promise: what a reader keeps of the pieces of a file.
use Rattle.std.specs.Prelude.{◌≡◌, ℕ, ◌+◌, ◌-◌, ◌^◌, ◌<◌, ◌≤◌, Bool, true, false, List, [], ◌++◌, length, filter, Option, Some, None, Result, MatchResult}
use Rattle.text_scan.specs.Blank.{trimmed}
use Rattle.text_scan.specs.Cut.{Lacks}
use Rattle.text_scan.specs.Lines.{lines_of}
use Rattle.text_scan.specs.Listing.{has_bytes}
use Rattle.aut_text.specs.declared.header.Header.{Header}
use Rattle.aut_text.specs.declared.error.AutError.{AutError}
use Rattle.aut_text.specs.Parts.{Parts, named_moves}
use Rattle.aut_text.specs.Grammar.{is_text}
use Rattle.aut_text.specs.Shown.{IsUnderWay, IsEnded, ShowsNone, IsShownOrMemory}
use Rattle.lts_base.specs.declared.limits.TheConstants.{MOST_LINE_BYTES}

-- the header, where it was read, the moves, and the number of lines
pub record Standing : Type 0 where
  pub head : Option Header
  pub parts : Parts
  pub number : ℕ

-- what is kept of an unfinished line: its bytes, or what follows some blanks at its front that were skipped
pub record Kept : Type 0 where
  pub bytes : List ℕ
  pub skipped : Bool

-- what was read of the whole lines, and what is kept of the unfinished one
pub record Pieces : Type 0 where
  pub standing : Standing
  pub kept : Kept

-- a reader that was fed some pieces, and the error that stopped it
pub record Fed : Type 0 where
  pub pieces : Pieces
  pub stopped : Option AutError

-- no move and no label
abbrev pub no_parts : Parts
no_parts = record { moves = []; labels = [] }

-- the lines are blank ones alone, or else the header and the moves are theirs
abbrev pub HasParts : List (List ℕ) → Option Header → Parts → Type 0
HasParts lines None parts = (filter is_text lines ≡ []) × (parts ≡ no_parts)
HasParts lines (Some h) parts = IsUnderWay lines h (named_moves parts)

-- these lines were read, and no other
pub record StandsAfter (lines : List (List ℕ)) (s : Standing) : Type 0 where
  pub number : s.number ≡ length lines
  pub parts : HasParts lines s.head s.parts

-- the bytes are blanks alone
abbrev pub IsBlank : List ℕ → Type 0
IsBlank bytes = has_bytes (trimmed bytes) ≡ false

-- nothing was skipped, and the line isn't too long; or it is too long, and is blank so far
abbrev pub IsKeptBy : List ℕ → List ℕ → List ℕ → Bool → Type 0
IsKeptBy line blanks bytes false = (blanks ≡ []) × (length line ≤ MOST_LINE_BYTES)
IsKeptBy line blanks bytes true = (MOST_LINE_BYTES < length line) × (is_text bytes ≡ false)

-- this is kept of the unfinished line
pub record IsKept (line : List ℕ) (k : Kept) : Type 0 where
  pub blanks : List ℕ
  pub joined : line ≡ blanks ++ k.bytes
  pub blank : IsBlank blanks
  pub form : IsKeptBy line blanks k.bytes k.skipped

-- the content is whole lines, which were read, and an unfinished one
pub record IsRead (content : List ℕ) (p : Pieces) : Type 0 where
  pub whole : List ℕ
  pub line : List ℕ
  pub joined : content ≡ whole ++ line
  pub ended : IsEnded whole
  pub unfinished : Lacks 10 line
  pub stands : StandsAfter (lines_of whole) p.standing
  pub kept : IsKept line p.kept

-- the reader was fed the content, in whatever pieces
abbrev pub HasReadTo : List ℕ → Pieces → Option AutError → Type 0
HasReadTo content pieces None = IsRead content pieces
HasReadTo content pieces (Some e) = IsShownOrMemory content e

abbrev pub HasRead : List ℕ → Fed → Type 0
HasRead content r = HasReadTo content r.pieces r.stopped

-- whatever the reader was fed, it is fed the piece after it
abbrev pub IsFed : Fed → List ℕ → Fed → Type 0
IsFed old piece new = (content : List ℕ) → HasRead content old → HasRead (content ++ piece) new

-- whatever the reader was fed, the answer is the fault that the content shows with the piece, or that it shows none
abbrev pub TellsShown : {A : Type 0} → Fed → List ℕ → Result A AutError → Type 0
TellsShown old piece result = (content : List ℕ) → HasRead content old → MatchResult result (λ _. ShowsNone (content ++ piece)) (IsShownOrMemory (content ++ piece))

-- a reader that wasn't stopped has room for the lines of the piece: their numbers and those of the lines before stay below 2^32 - 1
abbrev pub HasRoom : Fed → List ℕ → Type 0
HasRoom r piece = r.stopped ≡ None → r.pieces.standing.number + length (lines_of piece) < 2 ^ 32 - 1
