use Rattle.std.proofs.Common.{pos_of_ne-zero}
use Rattle.std.proofs.lemmas.Bool.{ltb-true}
use Rattle.walk_core.proofs.PackedLaws.{IsAbove-last}
use Rattle.walk_core.proofs.edges.is_above.Goals as goal

pub returns : goal.returns
returns c = λ t. IsAbove-last c.args.run.now c.args.head c.requires (pos_of_ne-zero c.if-count-eq0.false) (rw c.head_in.ensures at (ltb-true c.head_in.result c.args.head t))
