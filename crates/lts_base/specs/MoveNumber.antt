-- Private: how a move is held as one number.
use Rattle.std.specs.Prelude.{ℕ, zero, suc, ◌/◌, ◌%◌, Option, Some, None}
use Rattle.lts_base.specs.declared.action.Move.{Move}
use Rattle.lts_base.specs.declared.raw.RawMove.{RawMove}
use Rattle.lts_base.specs.declared.move_number.TheConstants.{STATES, CODES}
use Rattle.lts_base.specs.Raw.{as_move}

-- the label of a code: 0 is no label, and each other code is one above a label
abbrev pub label_of : ℕ → Option ℕ
label_of zero = None
label_of (suc a) = Some a

-- the move that a number stands for: the state that it leads to, then the code of its label, then the state that it leaves
abbrev pub unpacked : ℕ → RawMove
unpacked n = record { from = n / STATES / CODES; label = label_of (n / STATES % CODES); to = n % STATES }

-- the same move, where no label is Tau
abbrev pub move_of : ℕ → Move
move_of n = as_move (unpacked n)
