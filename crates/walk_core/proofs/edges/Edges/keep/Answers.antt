use Rattle.std.proofs.Common.{◌≡◌, eqb, None, ◌++◌, ◌∷◌, [], ap, ◌∙◌}
use Rattle.std.specs.Map.{lookup}
use Rattle.indexmap.proofs.CallerLemmas.{insert_entry-new}
use Rattle.walk_core.specs.Edges.{edge_key}
use Rattle.walk_core.specs.Packing.{edges_of}
use Rattle.walk_core.proofs.EdgeLaws.{IsInserted-run, IsInserted-rest, once_run, once_rest, none_right}
use Rattle.walk_core.proofs.PackedLaws.{edges_push}
use Rattle.walk_core.proofs.edges.Edges.keep.Goals as goal

pub returns-in-Ok-clause-edges : goal.returns-in-Ok-clause-edges
returns-in-Ok-clause-edges c =
    let none : lookup (eqb (edge_key c.args.node.0 c.args.item)) (edges_of c.self.inside.run.items ++ c.self.inside.rest.entries) ≡ None = rw (← c.self.view_is) at c.requires.absent in
    let grown : edges_of c.push.new.self.items ≡ edges_of c.self.inside.run.items ++ (edge_key c.args.node.0 c.args.item, c.args.to) ∷ [] = ap edges_of c.in-Ok.ensures.items ∙ edges_push c.self.inside.run.items c.in-Some.packed _ c.args.to c.in-Some.ensures.edge in
    rw (← c.self.view_is, grown) (IsInserted-run (edges_of c.self.inside.run.items) c.self.inside.rest.entries (edge_key c.args.node.0 c.args.item) c.args.to none)

pub returns-in-Ok-clause-once : goal.returns-in-Ok-clause-once
returns-in-Ok-clause-once c =
    let none : lookup (eqb (edge_key c.args.node.0 c.args.item)) (edges_of c.self.inside.run.items ++ c.self.inside.rest.entries) ≡ None = rw (← c.self.view_is) at c.requires.absent in
    let grown : edges_of c.push.new.self.items ≡ edges_of c.self.inside.run.items ++ (edge_key c.args.node.0 c.args.item, c.args.to) ∷ [] = ap edges_of c.in-Ok.ensures.items ∙ edges_push c.self.inside.run.items c.in-Some.packed _ c.args.to c.in-Some.ensures.edge in
    rw (← c.self.view_is, grown) (λ once. once_run (edges_of c.self.inside.run.items) c.self.inside.rest.entries (edge_key c.args.node.0 c.args.item) c.args.to none once)

pub returns-clause-edges : goal.returns-clause-edges
returns-clause-edges c =
    let none : lookup (eqb c.key_of.result) (edges_of c.self.inside.run.items ++ c.self.inside.rest.entries) ≡ None = rw c.key_of.ensures (rw (← c.self.view_is) at c.requires.absent) in
    let grown : c.insert.new.self.entries ≡ c.self.inside.rest.entries ++ (c.key_of.result, c.args.to) ∷ [] = c.in-Ok-insert.ensures.entries ∙ insert_entry-new eqb c.self.inside.rest c.key_of.result c.args.to (none_right _ (edges_of c.self.inside.run.items) c.self.inside.rest.entries none) in
    rw (← c.self.view_is, ← c.key_of.ensures, grown) (IsInserted-rest (edges_of c.self.inside.run.items) c.self.inside.rest.entries c.key_of.result c.args.to none)

pub returns-clause-once : goal.returns-clause-once
returns-clause-once c =
    let none : lookup (eqb c.key_of.result) (edges_of c.self.inside.run.items ++ c.self.inside.rest.entries) ≡ None = rw c.key_of.ensures (rw (← c.self.view_is) at c.requires.absent) in
    let grown : c.insert.new.self.entries ≡ c.self.inside.rest.entries ++ (c.key_of.result, c.args.to) ∷ [] = c.in-Ok-insert.ensures.entries ∙ insert_entry-new eqb c.self.inside.rest c.key_of.result c.args.to (none_right _ (edges_of c.self.inside.run.items) c.self.inside.rest.entries none) in
    rw (← c.self.view_is, grown) (λ once. once_rest (edges_of c.self.inside.run.items) c.self.inside.rest.entries c.key_of.result c.args.to none once)
