use Rattle.std.proofs.Common.{ℕ, ◌<◌, slice_index_or as get_or}
use Rattle.edge_io.specs.declared.content.Reply.{Reply}
use Rattle.edge_io.specs.Links.{IsSaid}
use Rattle.edge_io.proofs.content.are_said.Given as goal

abbrev pub invariant-loop-reply : goal.invariant-loop-reply
invariant-loop-reply l = (k : ℕ) (d : Reply) → k < l.reply-index → IsSaid (get_or l.replies k d).heard (get_or l.replies k d).text
