use Rattle.std.proofs.Common.{ℕ, ◌<◌, slice_index_or as get_or}
use Rattle.edge_io.specs.declared.content.Given.{Given}
use Rattle.edge_io.specs.StreamsInMemory.{HasBytes}
use Rattle.edge_io.proofs.content.are_given.Given as goal

abbrev pub invariant-loop-answer : goal.invariant-loop-answer
invariant-loop-answer l = (k : ℕ) (d : Given) → k < l.answer-index → HasBytes (get_or l.answers k d)
