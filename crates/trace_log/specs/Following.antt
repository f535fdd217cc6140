-- Private: whether an entry follows the trace before it.
use Rattle.std.specs.Prelude.{◌≡◌, ℕ, List}
use Rattle.lts_base.specs.declared.item.Item.{Item}
use Rattle.lts_base.specs.declared.item.Mode.{Mode}
use Rattle.lts_base.specs.System.{System, IsItemOf}
use Rattle.lts_base.specs.After.{Allows}
use Rattle.trace_log.specs.declared.seen.Seen.{Seen}
use Rattle.trace_log.specs.declared.seen.Seen.TheVariants.{Known}

-- the entry is this item of the alphabet, and the list of states allows it
abbrev pub IsAllowedAs : Mode → System → List ℕ → Seen → Item → Type 0
IsAllowedAs mode s set entry x = (entry ≡ Known x) × IsItemOf s x × Allows mode s set x

-- the entry is no item that the list of states allows
abbrev pub IsNotAllowed : Mode → System → List ℕ → Seen → Type 0
IsNotAllowed mode s set entry = (x : Item) → entry ≡ Known x → ¬ Allows mode s set x
