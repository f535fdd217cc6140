use Rattle.std.proofs.Common.{◌/◌, get_or, sym}
use Rattle.walk_core.specs.Edges.{edge_key}
use Rattle.walk_core.proofs.PackedLaws.{run_none}
use Rattle.walk_core.proofs.edges.in_run.Goals as goal

pub returns-in-None : goal.returns-in-None
returns-in-None c =
    sym (run_none c.args.run.now (edge_key c.args.node.0 c.args.item) 0 (λ j low. c.head_of.ensures.none c.in-None.is (get_or c.args.run.now j 0 / 16777216)))
