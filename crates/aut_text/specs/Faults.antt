-- Promise: why a content is no Aldebaran file: its first fault.
use Rattle.std.specs.Prelude.{◌≡◌, ℕ, ◌+◌, ◌<◌, ◌≤◌, true, List, ◌∷◌, ◌++◌, length, ◌⊎◌}
use Rattle.std.specs.Str.{IsUtf8}
use Rattle.text_scan.specs.Lines.{without_cr}
use Rattle.aut_text.specs.declared.header.Header.{Header}
use Rattle.aut_text.specs.declared.error.AutError.{AutError}
use Rattle.aut_text.specs.declared.error.AutError.TheVariants.{Header as BadHeader, Line, State, Count, LabelLong, NotUtf8, TooManyStates, TooManyMoves, Memory}
use Rattle.aut_text.specs.Parts.{NamedMove}
use Rattle.aut_text.specs.Form.{Written, IsHeader, IsMove}
use Rattle.aut_text.specs.Grammar.{is_text, IsClean, AreMoves, IsHeaded, IsBlankContent, IsBegun}
use Rattle.lts_base.specs.declared.limits.TheConstants.{MOST_LABEL_BYTES, MOST_LINE_BYTES, MOST_MOVES, MOST_STATES}

-- the line isn't a header of at most 4,096 bytes of UTF-8, or it is one whose start isn't below its states, while these
-- and the transitions are within the limits
abbrev pub IsNoHeader : List ℕ → Type 0
IsNoHeader line =
    (MOST_LINE_BYTES < length line) ⊎
    ((length line ≤ MOST_LINE_BYTES) × ¬ IsUtf8 (without_cr line)) ⊎
    (IsClean line × ((h : Header) → ¬ IsHeader (without_cr line) h)) ⊎
    (IsClean line × ((h : Header) × IsHeader (without_cr line) h × (h.states ≤ MOST_STATES) × (h.transitions ≤ MOST_MOVES) × (h.states ≤ h.start)))

-- the fault of the header's line
abbrev pub IsHeaderFault : List ℕ → AutError → Type 0
IsHeaderFault line BadHeader = IsNoHeader line
IsHeaderFault line TooManyStates = IsClean line × ((h : Header) × IsHeader (without_cr line) h × (MOST_STATES < h.states))
IsHeaderFault line TooManyMoves = IsClean line × ((h : Header) × IsHeader (without_cr line) h × (h.states ≤ MOST_STATES) × (MOST_MOVES < h.transitions))
IsHeaderFault line other = ⊥

-- the text writes no move
abbrev pub IsNoMove : List ℕ → Type 0
IsNoMove text = (w : Written) → ¬ IsMove text w

-- the line writes the move, and so many moves before it leave room for it
abbrev pub IsMoveAfter : ℕ → List ℕ → Written → Type 0
IsMoveAfter count line w = IsClean line × IsMove (without_cr line) w × (count < MOST_MOVES)

-- the fault of line k, which isn't blank and has so many moves before it: it is too long, or isn't UTF-8, or writes no move;
-- it is a move too many; an end isn't below the states; the label is too long
abbrev pub IsLineFault : ℕ → ℕ → List ℕ → ℕ → AutError → Type 0
IsLineFault states count line k (Line n) = (n ≡ k) × ((MOST_LINE_BYTES < length line) ⊎ (IsClean line × IsNoMove (without_cr line)))
IsLineFault states count line k (NotUtf8 n) = (n ≡ k) × (length line ≤ MOST_LINE_BYTES) × ¬ IsUtf8 (without_cr line)
IsLineFault states count line k TooManyMoves = IsClean line × ((w : Written) × IsMove (without_cr line) w × (MOST_MOVES ≤ count))
IsLineFault states count line k (State n) = (n ≡ k) × ((w : Written) × IsMoveAfter count line w × ¬ ((w.from < states) × (w.to < states)))
IsLineFault states count line k (LabelLong n) = (n ≡ k) × ((w : Written) × IsMoveAfter count line w × (w.from < states) × (w.to < states) × (MOST_LABEL_BYTES < length w.label))
IsLineFault states count line k Memory = Unit {0}
IsLineFault states count line k other = ⊥

-- among the lines, which follow line n, the first one at fault is at fault in this way
pub record IsFaultAmong (states : ℕ) (n : ℕ) (lines : List (List ℕ)) (e : AutError) : Type 0 where
  pub good : List (List ℕ)
  pub bad : List ℕ
  pub rest : List (List ℕ)
  pub moves : List NamedMove
  pub lines_are : lines ≡ good ++ bad ∷ rest
  pub moves_are : AreMoves states good moves
  pub few : length moves ≤ MOST_MOVES
  pub text : is_text bad ≡ true
  pub fault : IsLineFault states (length moves) bad (n + length good + 1) e

-- the line of the header is at fault
pub record IsHeadFault (content : List ℕ) (e : AutError) : Type 0 where
  pub head : List ℕ
  pub n : ℕ
  pub others : List (List ℕ)
  pub headed : IsHeaded content head n others
  pub fault : IsHeaderFault head e

-- the header is as it should be, and a later line is at fault
pub record IsLaterFault (content : List ℕ) (e : AutError) : Type 0 where
  pub h : Header
  pub n : ℕ
  pub others : List (List ℕ)
  pub begun : IsBegun content h n others
  pub fault : IsFaultAmong h.states n others e

-- no line is at fault, and the number of moves isn't the declared one
pub record IsMiscounted (content : List ℕ) (declared found : ℕ) : Type 0 where
  pub h : Header
  pub n : ℕ
  pub others : List (List ℕ)
  pub moves : List NamedMove
  pub begun : IsBegun content h n others
  pub moves_are : AreMoves h.states others moves
  pub declared_is : declared ≡ h.transitions
  pub found_is : found ≡ length moves
  pub few : length moves ≤ MOST_MOVES
  pub differ : ¬ (declared ≡ found)

-- why the content is no Aldebaran file
abbrev pub RefusesAut : List ℕ → AutError → Type 0
RefusesAut content BadHeader = IsBlankContent content ⊎ IsHeadFault content BadHeader
RefusesAut content TooManyStates = IsHeadFault content TooManyStates
RefusesAut content TooManyMoves = IsHeadFault content TooManyMoves ⊎ IsLaterFault content TooManyMoves
RefusesAut content (Line n) = IsLaterFault content (Line n)
RefusesAut content (NotUtf8 n) = IsLaterFault content (NotUtf8 n)
RefusesAut content (State n) = IsLaterFault content (State n)
RefusesAut content (LabelLong n) = IsLaterFault content (LabelLong n)
RefusesAut content (Count declared found) = IsMiscounted content declared found
RefusesAut content Memory = Unit {0}

-- the error is this one, or want of memory
abbrev pub IsOrMemory : AutError → AutError → Type 0
IsOrMemory e f = (f ≡ e) ⊎ (f ≡ Memory)
