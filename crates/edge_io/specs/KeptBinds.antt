-- Private: how a door in memory keeps the addresses of its binds.
use Rattle.std.specs.Prelude.{Bool, if◌then◌else◌, List, ℕ, map, None, Some}
use Rattle.edge_io.specs.declared.bound.Bound.{Bound}
use Rattle.edge_io.specs.DoorsInMemory.{Binding}
use Rattle.edge_io.specs.Kept.{Entry, Keeping}

-- the address of a bind
abbrev pub address_of : Entry Bound → List ℕ
address_of entry = entry.text

-- what is kept, while it is told
abbrev pub binding_of : Keeping Bound → Bool → Binding
binding_of kept told = record { list = if told then Some (map address_of kept.entries) else None; left = kept.left }
