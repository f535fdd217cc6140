use Rattle.std.proofs.Common.{◌≡◌, drop}
use Rattle.graphml_text.specs.Element.{has}
use Rattle.graphml_text.specs.MachineValues.{ids_of}
use Rattle.graphml_text.proofs.ids.is_among.Given as goal

abbrev pub invariant-loop-known : goal.invariant-loop-known
invariant-loop-known l = has (ids_of (drop l.known-index l.ids)) l.id ≡ has (ids_of l.ids) l.id
