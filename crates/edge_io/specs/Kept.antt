-- Private: how a list of entries with texts is kept in the room that it took.
use Rattle.std.specs.Prelude.{ℕ, ◌+◌, List, [], ◌∷◌, ◌++◌, length, take, drop}
use Rattle.edge_io.specs.declared.content.Room.{Room}
use Rattle.edge_io.specs.declared.kept.Mark.{Mark}
use Rattle.edge_io.specs.Rooms.{room_after}

-- an entry: what it is, and its text
pub record Entry (H : Type 0) : Type 0 where
  pub head : H
  pub text : List ℕ

-- the entries that are kept, and the room that is left
pub record Keeping (H : Type 0) : Type 0 where
  pub entries : List (Entry H)
  pub left : Room

-- the entries of these marks, whose texts stand one after the other
abbrev pub entries_of : {H : Type 0} → List (Mark H) → List ℕ → List (Entry H)
entries_of [] bytes = []
entries_of (mark ∷ marks) bytes = record { head = mark.head; text = take mark.length bytes } ∷ entries_of marks (drop mark.length bytes)

-- how many bytes these marks have together
abbrev pub marked_bytes : {H : Type 0} → List (Mark H) → ℕ
marked_bytes [] = 0
marked_bytes (mark ∷ marks) = mark.length + marked_bytes marks

-- one entry more, in the room that was left
abbrev pub with_entry : {H : Type 0} → Keeping H → H → List ℕ → Keeping H
with_entry kept head text = record { entries = kept.entries ++ record { head = head; text = text } ∷ []; left = room_after kept.left (length text) }
