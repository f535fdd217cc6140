use Rattle.std.proofs.Common.{◌≡◌, [], map, take}
use Rattle.graphml_scan.specs.Tag.{Attribute, are_once}
use Rattle.graphml_scan.specs.AttributeValues.{attributes_of}
use Rattle.graphml_scan.proofs.TagLaws.{once_from}
use Rattle.graphml_scan.proofs.attributes.are_once_by_set.Given as goal

abbrev pub invariant-loop-attribute : goal.invariant-loop-attribute
invariant-loop-attribute l =
    record {
      names : map (λ v. v.items) l.names.keys ≡ map (λ (a : Attribute). a.name) (attributes_of (take l.attribute-index l.attributes));
      once : once_from l.attributes l.attribute-index ≡ are_once [] (attributes_of l.attributes);
    }
