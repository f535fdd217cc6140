use Rattle.std.proofs.Common.{map}
use Rattle.std.proofs.lemmas.List.{length-map}
use Rattle.graphml_text.proofs.PlaceLaws.{place_within}
use Rattle.graphml_text.proofs.moves.found_place.Goals as goal

pub returns-in-Some-clause-within : goal.returns-in-Some-clause-within
returns-in-Some-clause-within c = rw length-map at (place_within (map (λ v. v.items) c.args.nodes.now.keys) c.args.id.now c.in-Some.place (c.in-Some.ensures (map (λ v. v.items) c.args.nodes.now.keys) c.requires))
