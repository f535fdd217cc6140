use Rattle.std.proofs.Common.{refl, subst, sym, List, ℕ}
use Rattle.graphml_text.specs.MachineValues.{edge_of}
use Rattle.graphml_text.specs.Ends.{HasEnds}
use Rattle.graphml_text.specs.Places.{IsPlaces}
use Rattle.graphml_text.proofs.JoinLaws.{near_found, kept_joined, none_left, graph_join}
use Rattle.graphml_text.proofs.graph.Graph.join.Goals as goal

pub ends_of-requires-clause-places : goal.ends_of-requires-clause-places
ends_of-requires-clause-places c = subst (λ (ids : List (List ℕ)). IsPlaces ids c.self.inside.places) (sym c.set.ensures) c.self.invariant.at

pub invariant_of-self-2 : goal.invariant_of-self-2
invariant_of-self-2 c =
    let joins : HasEnds c.self.inside.nodes (edge_of c.args.edge.now) c.in-Some.ends = subst (λ (ids : List (List ℕ)). HasEnds ids (edge_of c.args.edge.now) c.in-Some.ends) c.set.ensures c.in-Some.ensures in
    record {
      at = c.self.invariant.at;
      before = near_found _ _ _ joins.source;
      joined = kept_joined _ (edge_of c.args.edge.now) c.in-Some.ends _ _ _ _ joins (c.if-not-keep.ensures.kept refl) c.self.invariant.joined;
    }

pub returns-clause-joined : goal.returns-clause-joined
returns-clause-joined c _ =
    let joins : HasEnds c.self.inside.nodes (edge_of c.args.edge.now) c.in-Some.ends = subst (λ (ids : List (List ℕ)). HasEnds ids (edge_of c.args.edge.now) c.in-Some.ends) c.set.ensures c.in-Some.ensures in
    let none = none_left c.self.inside.named.items (rw c.as_slice.ensures.value at c.if-not-is_empty.ensures) in
    rw (← c.self.view_is) (graph_join _ (edge_of c.args.edge.now) c.in-Some.ends _ _ _ _ c.self.inside.named.items none c.self.invariant.joined joins (c.if-not-keep.ensures.kept refl))
