-- Promise: what an Aldebaran file says.
use Rattle.std.specs.Prelude.{◌≡◌, ℕ, ◌+◌, ◌<◌, ◌≤◌, Bool, true, List, [], ◌∷◌, ◌++◌, length, filter}
use Rattle.std.specs.List.{AllZip}
use Rattle.std.specs.Str.{IsUtf8}
use Rattle.lts_base.specs.Raw.{RawSystem, IsRaw}
use Rattle.text_scan.specs.Blank.{trimmed}
use Rattle.text_scan.specs.Lines.{lines_of, without_cr}
use Rattle.text_scan.specs.Listing.{has_bytes}
use Rattle.aut_text.specs.declared.header.Header.{Header}
use Rattle.aut_text.specs.Parts.{NamedMove, named_moves}
use Rattle.aut_text.specs.Form.{Written, IsHeader, IsMove, visible}
use Rattle.lts_base.specs.declared.limits.TheConstants.{MOST_LABEL_BYTES, MOST_LINE_BYTES, MOST_MOVES, MOST_STATES}

-- the line isn't one of blanks alone
abbrev pub is_text : List ℕ → Bool
is_text line = has_bytes (trimmed (without_cr line))

-- the line has at most 4,096 bytes, and is UTF-8
pub record IsClean (line : List ℕ) : Type 0 where
  pub short : length line ≤ MOST_LINE_BYTES
  pub utf8 : IsUtf8 (without_cr line)

-- the line is a header with at most 65,536 states and 1,048,576 transitions, and its start is below its states
pub record IsHeaderLine (line : List ℕ) (h : Header) : Type 0 where
  pub clean : IsClean line
  pub form : IsHeader (without_cr line) h
  pub states : h.states ≤ MOST_STATES
  pub transitions : h.transitions ≤ MOST_MOVES
  pub start : h.start < h.states

-- the line writes the move, whose ends are below the states and whose label has at most 1,024 bytes
pub record IsWrittenLine (states : ℕ) (line : List ℕ) (w : Written) : Type 0 where
  pub clean : IsClean line
  pub form : IsMove (without_cr line) w
  pub from : w.from < states
  pub to : w.to < states
  pub label : length w.label ≤ MOST_LABEL_BYTES

-- the line is that of the move
pub record IsMoveLine (states : ℕ) (line : List ℕ) (m : NamedMove) : Type 0 where
  pub written : Written
  pub line_is : IsWrittenLine states line written
  pub is : m ≡ record { from = written.from; label = visible written.label; to = written.to }

-- the lines that aren't blank are those of the moves, one by one
abbrev pub AreMoves : ℕ → List (List ℕ) → List NamedMove → Type 0
AreMoves states lines moves = AllZip (IsMoveLine states) (filter is_text lines) moves

-- the head is line n of the content, counted from 1, and the first that isn't blank; the others follow it
pub record IsHeaded (content : List ℕ) (head : List ℕ) (n : ℕ) (others : List (List ℕ)) : Type 0 where
  pub blanks : List (List ℕ)
  pub lines : lines_of content ≡ blanks ++ head ∷ others
  pub blank : filter is_text blanks ≡ []
  pub text : is_text head ≡ true
  pub number : n ≡ length blanks + 1

-- every line is blank
abbrev pub IsBlankContent : List ℕ → Type 0
IsBlankContent content = filter is_text (lines_of content) ≡ []

-- the content begins with this header line, and these are the lines after it
pub record IsBegun (content : List ℕ) (h : Header) (n : ℕ) (others : List (List ℕ)) : Type 0 where
  pub head : List ℕ
  pub headed : IsHeaded content head n others
  pub header : IsHeaderLine head h

-- the system has these moves, by the texts of their labels
abbrev pub has_moves : RawSystem → List NamedMove
has_moves r = named_moves (record { moves = r.moves; labels = r.labels })

-- the content is an Aldebaran file of the system: a header line, and as many move lines as it says; the system's label
-- numbers are not the file's, and only their texts count
pub record IsAut (content : List ℕ) (r : RawSystem) : Type 0 where
  pub h : Header
  pub n : ℕ
  pub others : List (List ℕ)
  pub begun : IsBegun content h n others
  pub start : r.start ≡ h.start
  pub states : r.states ≡ h.states
  pub moves : AreMoves h.states others (has_moves r)
  pub count : length r.moves ≡ h.transitions

-- the content is an Aldebaran file of the system, whose labels stand in the order of their first use; so it is the file of
-- this system alone
pub record IsAutFile (content : List ℕ) (r : RawSystem) : Type 0 where
  pub file : IsAut content r
  pub sound : IsRaw r

-- the two systems are the same but for the numbers of their labels
pub record SaysSame (r s : RawSystem) : Type 0 where
  pub states : s.states ≡ r.states
  pub start : s.start ≡ r.start
  pub moves : has_moves s ≡ has_moves r
