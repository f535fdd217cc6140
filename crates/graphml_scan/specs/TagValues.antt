-- Promise: tags of the code, as records of lists.
use Rattle.graphml_scan.specs.declared.tag.Tag.{Tag as LentTag}
use Rattle.graphml_scan.specs.Tag.{Tag}
use Rattle.graphml_scan.specs.AttributeValues.{attributes_of}

abbrev pub tag_of : LentTag → Tag
tag_of tag = record { name = tag.name.now; attributes = attributes_of tag.attributes.now; whole = tag.whole }
