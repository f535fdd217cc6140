use Rattle.std.proofs.Common.{map, ℕ, Vec, Global, arith}
use Rattle.graphml_text.proofs.EndsLaws.{edge_label, edges_more, rest_more, edges_fault}
use Rattle.graphml_text.proofs.moves.moves_of.Goals as goal

pub add_edge-requires-clause-label : goal.add_edge-requires-clause-label
add_edge-requires-clause-label c = edge_label _ _ _ c.loop-edge-test.true c.edge-item.is c.requires.labels

pub returns-in-Err : goal.returns-in-Err
returns-in-Err c es are = edges_fault (map (λ (v : Vec ℕ Global). v.items) c.args.nodes.now.keys) es c.args.before c.args.edges.now c.loop-edge.edge-index c.edge-item.result _ are c.loop-edge-test.true c.edge-item.is c.loop-edge.invariant.rest c.in-Err.ensures.edge

pub loop-edge-preserved : goal.loop-edge-preserved
loop-edge-preserved c = record {
  near = c.in-Ok.ensures.near;
  few = omega (arith, c.in-Ok.ensures.edge.1.count, c.loop-edge.invariant.few);
  done = λ es are. edges_more _ es _ _ _ _ _ c.loop-edge-test.true c.edge-item.is c.in-Ok.ensures.edge (c.loop-edge.invariant.done es are);
  rest = rest_more _ _ _ _ _ c.loop-edge-test.true c.edge-item.is c.in-Ok.ensures.edge.0 c.loop-edge.invariant.rest;
}
