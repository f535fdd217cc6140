use Rattle.std.proofs.Common.{◌≤◌}
use Rattle.edge_io.specs.Links.{KeepsLink}
use Rattle.sim_core.specs.Served.{serving}
use Rattle.sim_core.proofs.ServeLaws.{HasServed}
use Rattle.sim_core.proofs.serving.serve_over.Given as goal

abbrev pub invariant-loop : goal.invariant-loop
invariant-loop g l =
    record {
      served : HasServed g.K.Link.gives g.R.NextWord.step (serving l.fn.sim (g.K.Link.state l.fn.link)) l.inputs l.outputs l.counter (serving l.sim (g.K.Link.state l.link));
      later : KeepsLink (g.K.Link.told l.fn.link) (g.K.Link.told l.link);
      few : l.inputs ≤ l.counter;
      small : l.outputs ≤ l.counter;
    }
