use Rattle.std.proofs.Common.{◌≡◌, not, take, drop}
use Rattle.graphml_scan.specs.Reference.{has_ampersand}
use Rattle.graphml_scan.specs.Tag.{value_at}
use Rattle.graphml_scan.proofs.TagLaws.{value_after}
use Rattle.graphml_scan.proofs.attributes.value_at.Given as goal

abbrev pub invariant-loop-byte : goal.invariant-loop-byte
invariant-loop-byte l =
    record {
      count : l.count ≡ l.byte-index;
      plain : l.plain ≡ not (has_ampersand (take l.byte-index l.bytes));
      value : value_after (take l.byte-index l.bytes) l.quote (drop l.byte-index l.bytes) ≡ value_at l.quote l.bytes;
    }
