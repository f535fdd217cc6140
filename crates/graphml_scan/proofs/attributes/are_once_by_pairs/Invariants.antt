use Rattle.std.proofs.Common.{◌≡◌, []}
use Rattle.graphml_scan.specs.Tag.{are_once}
use Rattle.graphml_scan.specs.AttributeValues.{attributes_of}
use Rattle.graphml_scan.proofs.TagLaws.{once_from}
use Rattle.graphml_scan.proofs.attributes.are_once_by_pairs.Given as goal

abbrev pub invariant-loop-attribute : goal.invariant-loop-attribute
invariant-loop-attribute l =
    record {
      index : l.index ≡ l.attribute-index;
      once : once_from l.attributes l.attribute-index ≡ are_once [] (attributes_of l.attributes);
    }
