-- Promise: attributes of the code, as records of lists.
use Rattle.std.specs.Prelude.{List, map}
use Rattle.graphml_scan.specs.declared.attributes.Attribute.{Attribute as LentAttribute}
use Rattle.graphml_scan.specs.Tag.{Attribute}
use Rattle.graphml_scan.specs.Values.{text_of}

abbrev pub attribute_of : LentAttribute → Attribute
attribute_of a = record { name = a.name.now; value = text_of a.value }

abbrev pub attributes_of : List LentAttribute → List Attribute
attributes_of attributes = map attribute_of attributes
