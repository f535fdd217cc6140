use Rattle.graphml_text.proofs.graph.Graph.prepare.Goals as goal

pub invariant_of-self : goal.invariant_of-self
invariant_of-self c = record {
  at = rw (← c.set.ensures) c.in_ok-self-inside.ensures;
  before = c.self.invariant.before;
  joined = c.self.invariant.joined;
}
