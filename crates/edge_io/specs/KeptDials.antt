-- Private: how a dialer in memory keeps what was asked of it.
use Rattle.std.specs.Prelude.{map, Bool, if◌then◌else◌, None, Some}
use Rattle.edge_io.specs.declared.asked.Asked.{Asked}
use Rattle.edge_io.specs.DialersInMemory.{Asking}
use Rattle.edge_io.specs.Dials.{Dial}
use Rattle.edge_io.specs.Kept.{Entry, Keeping}

-- the dial of an entry, whose text is the address
abbrev pub dial_of : Entry Asked → Dial
dial_of entry = record { address = entry.text; tick = entry.head.tick; refused = entry.head.refused }

-- what is kept, while it is told
abbrev pub asking_of : Keeping Asked → Bool → Asking
asking_of kept told = record { list = if told then Some (map dial_of kept.entries) else None; left = kept.left }
