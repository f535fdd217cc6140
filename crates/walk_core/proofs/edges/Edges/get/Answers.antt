use Rattle.std.proofs.Common.{◌≡◌, eqb, Some, None, sym, ◌∙◌}
use Rattle.std.specs.Map.{lookup}
use Rattle.walk_core.specs.Edges.{edge_key}
use Rattle.walk_core.specs.Packing.{edges_of}
use Rattle.walk_core.proofs.EdgeLaws.{lookup_left, lookup_right}
use Rattle.walk_core.proofs.edges.Edges.get.Goals as goal

pub returns-in-Some : goal.returns-in-Some
returns-in-Some c =
    let there : lookup (eqb (edge_key c.args.node.0 c.args.item)) (edges_of c.self.inside.run.items) ≡ Some c.in-Some.to = rw c.deref.ensures.value at (sym c.in_run.ensures ∙ c.in-Some.is) in
    rw (← c.self.view_is) (sym (lookup_left (eqb (edge_key c.args.node.0 c.args.item)) (edges_of c.self.inside.run.items) c.self.inside.rest.entries c.in-Some.to there))

pub returns : goal.returns
returns c =
    let none : lookup (eqb (edge_key c.args.node.0 c.args.item)) (edges_of c.self.inside.run.items) ≡ None = rw c.deref.ensures.value at (sym c.in_run.ensures ∙ c.in_default.is) in
    rw (← c.self.view_is, ← c.key_of.ensures) (c.in_rest.ensures ∙ sym (lookup_right (eqb c.key_of.result) (edges_of c.self.inside.run.items) c.self.inside.rest.entries (rw (← c.key_of.ensures) at none)))
