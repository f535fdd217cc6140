-- Private: the plain part of a session, with the room that it took.
use Rattle.std.specs.Prelude.{ℕ, ◌+◌, ◌≤◌, length, IfSome}
use Rattle.log_text.specs.declared.limits.TheConstants.{MOST_TEXT_BYTES, MOST_LEFT_BYTES}
use Rattle.edge_io.specs.Links.{IsWithinLine}
use Rattle.session_core.specs.Table.{Sitting}
use Rattle.session_core.specs.Logged.{strange_entries}

-- what the table speaks of, and how many items there is room for
pub record Kept : Type 0 where
  pub sitting : Sitting
  pub room : ℕ

-- a log can tell it: there is room for its entries, and its texts are bytes of one line
pub record IsLoggable (kept : Kept) : Type 0 where
  pub few : length kept.sitting.items + length (strange_entries kept.sitting.strange) ≤ kept.room
  pub strange : IfSome kept.sitting.strange (IsWithinLine MOST_TEXT_BYTES)
  pub left : IsWithinLine MOST_LEFT_BYTES kept.sitting.left
