use Rattle.std.proofs.Common.{map}
use Rattle.graphml_text.specs.Places.{IsPlaces}
use Rattle.graphml_text.proofs.places.places_of.Given as goal

abbrev pub invariant-loop-id : goal.invariant-loop-id
invariant-loop-id l = IsPlaces (map (λ v. v.items) l.nodes.keys) l.places
