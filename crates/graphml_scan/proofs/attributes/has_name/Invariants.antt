use Rattle.std.proofs.Common.{◌≡◌, drop}
use Rattle.graphml_scan.specs.Tag.{has_name}
use Rattle.graphml_scan.specs.AttributeValues.{attributes_of}
use Rattle.graphml_scan.proofs.attributes.has_name.Given as goal

abbrev pub invariant-loop-attribute : goal.invariant-loop-attribute
invariant-loop-attribute l = has_name (attributes_of (drop l.attribute-index l.attributes)) l.name ≡ has_name (attributes_of l.attributes) l.name
