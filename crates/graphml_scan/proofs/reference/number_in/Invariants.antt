use Rattle.std.proofs.Common.{◌≡◌, drop}
use Rattle.graphml_scan.specs.Reference.{number_from, if_character}
use Rattle.graphml_scan.proofs.reference.number_in.Given as goal

abbrev pub invariant-loop-byte : goal.invariant-loop-byte
invariant-loop-byte l = if_character (number_from l.base l.number (drop l.byte-index l.digits)) ≡ if_character (number_from l.base 0 l.digits)
