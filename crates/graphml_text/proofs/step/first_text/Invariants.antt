use Rattle.std.proofs.Common.{◌≡◌, drop, map}
use Rattle.std.specs.List.{find}
use Rattle.graphml_scan.specs.Values.{text_of}
use Rattle.text_scan.specs.Listing.{has_bytes}
use Rattle.graphml_text.proofs.step.first_text.Given as goal

abbrev pub invariant-loop-text : goal.invariant-loop-text
invariant-loop-text l = find has_bytes (map text_of (drop l.text-index l.texts)) ≡ find has_bytes (map text_of l.texts)
