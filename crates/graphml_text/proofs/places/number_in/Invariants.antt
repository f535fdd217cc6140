use Rattle.std.proofs.Common.{◌≡◌, length, Some}
use Rattle.graphml_text.specs.Places.{number_in}
use Rattle.graphml_text.proofs.PlaceLaws.{number_onto}
use Rattle.graphml_text.proofs.places.number_in.Given as goal

abbrev pub invariant-loop-rest : goal.invariant-loop-rest
invariant-loop-rest l = number_onto l.rest (Some l.number) ≡ number_in l.digits

abbrev pub decreases-loop-rest : goal.decreases-loop-rest
decreases-loop-rest l = length l.rest
