use Rattle.std.proofs.lemmas.List.{map-set}
use Rattle.graphml_scan.specs.Values.{text_of}
use Rattle.graphml_text.proofs.step.set_text.Goals as goal

pub returns-then-place-len : goal.returns-then-place-len
returns-then-place-len c = map-set text_of _ _ _
