use Rattle.std.proofs.Common.{◌≡◌, Some, refl, sym, ◌∙◌, arith}
use Rattle.walk_core.specs.Edges.{answer_at, edge_key}
use Rattle.walk_core.specs.Listed.{IsInserted}
use Rattle.walk_core.proofs.WalkLaws.{IsAccount-step, MatchResult-from_err}
use Rattle.walk_core.proofs.EdgeLaws.{AreRight-grow, AreRight-step, AreKept-push, KeepsEdge-push, IsStep-answer}
use Rattle.walk_core.proofs.lazy.Graph.step.Goals as goal

pub returns-in-Some-clause-ok : goal.returns-in-Some-clause-ok
returns-in-Some-clause-ok c =
    let kept : answer_at c.self.inside.edges.edges c.args.node.0 c.args.item ≡ Some c.in-Some.to = sym c.get.ensures ∙ c.in-Some.is in
    rw (← c.self.view_is) (IsStep-answer c.self.inside.sets _ _ _ c.self.invariant.walk (c.self.invariant.right.each _ _ _ (rw (← c.self.view_is) at c.requires.item) kept).1)

pub returns-in-Some-clause-account : goal.returns-in-Some-clause-account
returns-in-Some-clause-account c =
    λ traces σ account set has.
    IsAccount-step c.args.self.now.walked c.args.self.now.walked c.args.node.0 c.args.item _ traces σ refl (returns-in-Some-clause-ok c) account set has

pub returns-in_err-to-clause-account : goal.returns-in_err-to-clause-account
returns-in_err-to-clause-account c =
    rw (← c.self.view_is) (λ traces σ account set has.
    MatchResult-from_err c.from_residual.result _ _ _ c.from_residual.ensures.1 (λ y same. rw same (c.in_err-to.ensures.account traces σ account set has)))

pub invariant_of-self-then-len-ge-MOST_EDGES : goal.invariant_of-self-then-len-ge-MOST_EDGES
invariant_of-self-then-len-ge-MOST_EDGES c = record {
  walk = c.step.ensures.walk;
  kept = c.self.invariant.kept;
  right = AreRight-grow _ _ _ c.step.ensures.grows c.self.invariant.right;
}

pub returns-in_err-to-2-clause-account : goal.returns-in_err-to-2-clause-account
returns-in_err-to-2-clause-account c =
    rw (← c.self.view_is) (λ traces σ account set has.
    MatchResult-from_err c.from_residual-in_err-to-2.result _ _ _ c.from_residual-in_err-to-2.ensures.1 (λ y same. rw same (c.in_err-to-2.ensures.account traces σ account set has)))

pub invariant_of-self-2 : goal.invariant_of-self-2
invariant_of-self-2 c =
    let inserted : IsInserted c.self.inside.edges.edges c.keep.new.self.edges (edge_key c.args.node.0 c.args.item) c.in_ok-to-2.to = rw c.reserve.ensures.same at c.keep.ensures.edges in
    record {
      walk = c.step-2.ensures.walk;
      kept = AreKept-push c.self.inside.edges.edges _ _ _ c.self.invariant.kept (rw c.reserve.ensures.same at c.keep.ensures.once) inserted (omega (arith, c.if-len-ge-MOST_EDGES.false, c.len.ensures));
      right = AreRight-step c.self.inside.sets _ c.self.inside.edges.edges _ c.args.node.0 c.args.item c.in_ok-to-2.to c.step-2.ensures.walk c.step-2.ensures.grows (rw (← c.self.view_is) at c.requires.node) (rw (← c.self.view_is) at c.requires.item) c.in_ok-to-2.ensures.ok inserted c.self.invariant.right;
    }

pub returns-clause-edge : goal.returns-clause-edge
returns-clause-edge c =
    let inserted : IsInserted c.self.inside.edges.edges c.keep.new.self.edges (edge_key c.args.node.0 c.args.item) c.in_ok-to-2.to = rw c.reserve.ensures.same at c.keep.ensures.edges in
    rw (← c.self.view_is) (KeepsEdge-push c.self.inside.edges.edges _ c.args.node.0 c.args.item c.in_ok-to-2.to inserted)
