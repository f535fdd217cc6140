-- Private: what the pieces of the reader say to each other.
use Rattle.std.specs.Prelude.{◌≡◌, ℕ, ◌<◌, List, length}
use Rattle.graphml_text.specs.Reading.{Reading, nothing_read}
use Rattle.graphml_text.specs.Document.{read_on, finished}
use Rattle.graphml_text.specs.Kept.{IsKept}
use Rattle.graphml_text.specs.declared.error.GraphError.{GraphError}
use Rattle.graphml_text.specs.MachineValues.{reading_of, Refuses}
use Rattle.graphml_text.specs.declared.machine.Machine.{Machine}

-- what is read of the bytes after the old reading is what is read of the rest after the new one, which keeps to what the old one
-- keeps to; and the rest is shorter
abbrev pub GoesOn : ℕ → Reading → List ℕ → Reading → List ℕ → Type 0
GoesOn size old bytes new rest = (read_on size old bytes ≡ read_on size new rest) × (length rest < length bytes) × (IsKept old → IsKept new)

-- what is read of the bytes after this reading is refused so
abbrev pub Stops : ℕ → Reading → List ℕ → GraphError → Type 0
Stops size m bytes e = Refuses e (read_on size m bytes)

-- what is read of the whole body is what this reading says at the end
abbrev pub EndsIn : ℕ → List ℕ → Reading → Type 0
EndsIn size body m = (read_on size nothing_read body ≡ finished size m) × IsKept m

-- the same, of the machine
abbrev pub Goes : ℕ → Machine → List ℕ → Machine → List ℕ → Type 0
Goes size old bytes new rest = GoesOn size (reading_of old) bytes (reading_of new) rest

abbrev pub Halts : ℕ → Machine → List ℕ → GraphError → Type 0
Halts size m bytes e = Stops size (reading_of m) bytes e

-- behind a `<`, the byte begins a start tag: it is no `/`, no `!` and no `?`
abbrev pub IsStart : ℕ → Type 0
IsStart b = (¬ (b ≡ 47)) × (¬ (b ≡ 33)) × (¬ (b ≡ 63))
