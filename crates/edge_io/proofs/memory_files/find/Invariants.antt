use Rattle.std.proofs.Common.{◌≡◌, drop}
use Rattle.edge_io.specs.Contents.{content_of}
use Rattle.edge_io.proofs.memory_files.find.Given as goal

abbrev pub invariant-loop-text : goal.invariant-loop-text
invariant-loop-text l = content_of (drop l.text-index l.contents) l.name ≡ content_of l.contents l.name
