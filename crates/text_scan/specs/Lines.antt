-- Promise: the lines of a text.
use Rattle.std.specs.Prelude.{ℕ, ◌-◌, ◌==◌, List, [], ◌∷◌, length, take, drop, if◌then◌else◌}
use Rattle.std.specs.Str.{bytes_eq}

-- the lines with one more byte at the front of the first one
abbrev pub with_byte : ℕ → List (List ℕ) → List (List ℕ)
with_byte b [] = (b ∷ []) ∷ []
with_byte b (line ∷ lines) = (b ∷ line) ∷ lines

-- the lines of the bytes: each ends before an LF, and the last one may lack its LF
abbrev pub lines_of : List ℕ → List (List ℕ)
lines_of [] = []
lines_of (b ∷ bytes) = if b == 10 then [] ∷ lines_of bytes else with_byte b (lines_of bytes)

-- the line without one CR at its end
abbrev pub without_cr : List ℕ → List ℕ
without_cr line = if bytes_eq (drop (length line - 1) line) (13 ∷ []) then take (length line - 1) line else line
