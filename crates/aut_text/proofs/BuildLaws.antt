-- The moves that were read make a system.
use Rattle.std.proofs.Common.{◌≡◌, ℕ, zero, suc, ◌<◌, List, [], ◌∷◌, length, map, filter, Option, Some, None, All, refl, arith}
use Rattle.std.specs.List.{AllZip}
use Rattle.std.proofs.lemmas.List.{get_or-map, length-map}
use Rattle.lts_base.specs.declared.action.Act.TheVariants.{Tau}
use Rattle.lts_base.specs.declared.raw.RawMove.{RawMove}
use Rattle.lts_base.specs.declared.system.LtsError.{LtsError}
use Rattle.lts_base.specs.declared.system.LtsError.TheVariants.{NoState, StartRange, StateRange, LabelRange, Memory}
use Rattle.lts_base.specs.System.{IsActOf}
use Rattle.lts_base.specs.Built.{RefusesParts, HasEnds, move_at}
use Rattle.lts_base.specs.Raw.{as_move, raw_act, raw_move_at}
use Rattle.aut_text.specs.Parts.{Parts, NamedMove, IsParts, named, named_moves}
use Rattle.aut_text.specs.Grammar.{is_text, IsMoveLine, AreMoves}
use Rattle.aut_text.specs.Reading.{IsWithin}

abbrev no_named : NamedMove
no_named = record { from = 0; label = None; to = 0 }

abbrev no_raw : RawMove
no_raw = record { from = 0; label = None; to = 0 }

-- the moves of lines stay within the states
pub lines_within : (states : ℕ) (lines : List (List ℕ)) (ms : List NamedMove) → AllZip (IsMoveLine states) lines ms → All (IsWithin states) ms
lines_within states [] [] are k d below = absurd (omega (arith, below))
lines_within states [] (m ∷ ms) are k d below = absurd are
lines_within states (line ∷ lines) [] are k d below = absurd are
lines_within states (line ∷ lines) (m ∷ ms) are zero d below = rw (are.0.is) (are.0.line_is.from, are.0.line_is.to)
lines_within states (line ∷ lines) (m ∷ ms) are (suc k) d below = lines_within states lines ms are.1 k d (omega (arith, below))

pub moves_within : (states : ℕ) (lines : List (List ℕ)) (ms : List NamedMove) → AreMoves states lines ms → All (IsWithin states) ms
moves_within states lines ms are = lines_within states (filter is_text lines) ms are

-- the move at a place, as the system has it
pub at_place : (p : Parts) (k : ℕ) → k < length p.moves → move_at (map as_move p.moves) k ≡ as_move (raw_move_at p.moves k)
at_place p k below = get_or-map as_move p.moves k no_raw (record { from = 0; act = Tau; to = 0 }) below

pub ends_within : (states : ℕ) (p : Parts) (k : ℕ) → All (IsWithin states) (named_moves p) → k < length p.moves → HasEnds states (move_at (map as_move p.moves) k)
ends_within states p k within below =
    let here = within k no_named (rw (length-map p.moves (named p.labels)) below) in
    let is = get_or-map (named p.labels) p.moves k no_raw no_named below in
    rw (at_place p k below) (rw is at here)

pub acts_within : (p : Parts) (k : ℕ) → IsParts p → k < length p.moves → IsActOf (length p.labels) (move_at (map as_move p.moves) k).act
acts_within p k are below = rw (at_place p k below) (go (raw_move_at p.moves k).label refl)
  where
    go : (label : Option ℕ) → (raw_move_at p.moves k).label ≡ label → IsActOf (length p.labels) (raw_act label)
    go None is = tt
    go (Some a) is = are.within k a (below, is)

-- want of memory alone keeps them from it
pub builds : (states start : ℕ) (p : Parts) (e : LtsError) → start < states → IsParts p → All (IsWithin states) (named_moves p) → RefusesParts states start (length p.labels) (map as_move p.moves) e → e ≡ Memory
builds states start p NoState inside are within none = absurd (omega (arith, inside, none))
builds states start p StartRange inside are within (some, over) = absurd (omega (arith, inside, over))
builds states start p (StateRange k) inside are within (low, first) =
    let below : k < length p.moves = rw (length-map p.moves as_move) at (first.below) in
    absurd (first.fault.1 (ends_within states p k within below))
builds states start p (LabelRange k) inside are within (low, first) =
    let below : k < length p.moves = rw (length-map p.moves as_move) at (first.below) in
    absurd (first.fault.2 (acts_within p k are below))
builds states start p Memory inside are within none = refl
