use Rattle.std.proofs.Common.{◌≡◌, drop}
use Rattle.graphml_text.specs.Element.{value_in}
use Rattle.graphml_scan.specs.AttributeValues.{attributes_of}
use Rattle.graphml_text.proofs.step.needed.Given as goal

abbrev pub invariant-loop-attribute : goal.invariant-loop-attribute
invariant-loop-attribute l = value_in l.name (attributes_of (drop l.attribute-index l.attribute-items)) ≡ value_in l.name (attributes_of l.tag.attributes.now)
