use Rattle.std.proofs.Common.{rules, ◌<◌, sym, subst}
use Rattle.lts_base.specs.System.{System}
use Rattle.lts_base.proofs.MoveLaws.{offset_part, AreMovesOf-filter}
use Rattle.lts_base.proofs.system.Lts.moves_of.Goals as goal

pub slice_bounds-result-count : goal.slice_bounds-result-count
slice_bounds-result-count c =
    let below : c.args.state < c.self.inside.states = subst (λ (s : System). c.args.state < s.states) (sym c.self.view_is) c.requires in
    (offset_part _ _ _ c.args.state c.index.result.now c.index-2.result.now c.self.invariant.offsets below c.index.ensures c.index-2.ensures).0

pub slice_bounds-result-start : goal.slice_bounds-result-start
slice_bounds-result-start c =
    let below : c.args.state < c.self.inside.states = subst (λ (s : System). c.args.state < s.states) (sym c.self.view_is) c.requires in
    let part = offset_part _ _ _ c.args.state c.index.result.now c.index-2.result.now c.self.invariant.offsets below c.index.ensures c.index-2.ensures in
    let low = part.0 in
    let high = part.1 in
    search rules

pub returns-clause-value : goal.returns-clause-value
returns-clause-value c =
    let below : c.args.state < c.self.inside.states = subst (λ (s : System). c.args.state < s.states) (sym c.self.view_is) c.requires in
    let part = offset_part _ _ _ c.args.state c.index.result.now c.index-2.result.now c.self.invariant.offsets below c.index.ensures c.index-2.ensures in
    rw (c.deref.ensures.value, ← c.self.view_is) part.2

pub returns-clause-these : goal.returns-clause-these
returns-clause-these c = rw (returns-clause-value c) (AreMovesOf-filter c.args.self.now c.args.state)
