use Rattle.std.proofs.Common.{◌≡◌, length}
use Rattle.graphml_scan.specs.Many.{many}
use Rattle.graphml_scan.specs.Tag.{attribute_at}
use Rattle.graphml_scan.specs.AttributeValues.{attributes_of}
use Rattle.graphml_scan.proofs.TagLaws.{after_front}
use Rattle.graphml_scan.proofs.attributes.many_at.Given as goal

abbrev pub invariant-loop-attribute : goal.invariant-loop-attribute
invariant-loop-attribute l = after_front (attributes_of l.room.items) (many attribute_at l.rest) ≡ many attribute_at l.bytes

abbrev pub decreases-loop-attribute : goal.decreases-loop-attribute
decreases-loop-attribute l = length l.rest
