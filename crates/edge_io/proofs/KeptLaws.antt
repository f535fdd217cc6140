-- Entries that are kept as marks, with their texts one after the other.
use Rattle.std.proofs.Common.{arith, ◌≡◌, ℕ, ◌+◌, ◌≤◌, List, [], ◌∷◌, ◌++◌, length, map, drop, refl, length-drop}
use Rattle.std.proofs.lemmas.List.{take_all, take-append-le, drop-append-le}
use Rattle.edge_io.specs.declared.kept.Mark.{Mark}
use Rattle.edge_io.specs.Kept.{Entry, entries_of, marked_bytes}

-- one mark more has the bytes of all and its own
pub marked_push : {H : Type 0} (marks : List (Mark H)) (mark : Mark H) → marked_bytes (marks ++ mark ∷ []) ≡ marked_bytes marks + mark.length
marked_push [] mark = omega arith
marked_push (m ∷ marks) mark = omega (arith, marked_push marks mark)

-- one mark more, whose text stands after the others, is one entry more
pub entries_push : {H : Type 0} (marks : List (Mark H)) (bytes text : List ℕ) (head : H) → marked_bytes marks ≡ length bytes → entries_of (marks ++ record { head = head; length = length text } ∷ []) (bytes ++ text) ≡ entries_of marks bytes ++ record { head = head; text = text } ∷ []
entries_push [] [] text head count = rw (take_all (length text) text (omega arith)) refl
entries_push [] (b ∷ bytes) text head count = absurd (omega (arith, count))
entries_push (m ∷ marks) bytes text head count =
    let within : m.length ≤ length bytes = omega (arith, count) in
    let rest : marked_bytes marks ≡ length (drop m.length bytes) = rw (length-drop m.length bytes) (omega (arith, count)) in
    let next = entries_push marks (drop m.length bytes) text head rest in
    rw (take-append-le m.length bytes text within, drop-append-le m.length bytes text within, next) refl

-- the entries from a place on, whose texts begin at a byte, with those before it are all
pub record AreRest {H A : Type 0} (act : Entry H → A) (marks : List (Mark H)) (bytes : List ℕ) (place start : ℕ) (before : List A) : Type 0 where
  pub all : before ++ map act (entries_of (drop place marks) (drop start bytes)) ≡ map act (entries_of marks bytes)
  pub count : start + marked_bytes (drop place marks) ≡ length bytes
