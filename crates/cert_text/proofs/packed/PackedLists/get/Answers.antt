use Rattle.std.proofs.Common.{rules, ◌≡◌, ◌∙◌, ◌<◌, ◌≤◌, [], length, refl, sym, ap, arith}
use Rattle.std.proofs.lemmas.List.{get_or_past}
use Rattle.lts_base.proofs.PackedLaws.{length-pieces, part_at, part_after, starts_at}
use Rattle.cert_text.proofs.packed.PackedLists.get.Goals as goal

pub index-requires : goal.index-requires
index-requires c = omega (arith, c.if-place-len.false, c.len.ensures, c.self.inside.ends.ok.0)

pub index-requires-2 : goal.index-requires-2
index-requires-2 c = omega (arith, c.if-place-len.false, c.len.ensures, c.self.inside.ends.ok.0)

pub slice_bounds-result-end-then-place-eq0 : goal.slice_bounds-result-end-then-place-eq0
slice_bounds-result-end-then-place-eq0 c =
    let below : c.args.place < length c.self.inside.ends.items = omega (arith, c.if-place-len.false, c.len.ensures, c.self.inside.ends.ok.0) in
    let starts : 0 ≡ starts_at 0 c.self.inside.ends.items c.args.place = rw (c.if-place-eq0.true) refl in
    let part = part_at c.self.inside.states.items c.self.inside.ends.items c.args.place 0 c.index.result.now c.self.invariant below starts c.index.ensures in
    let high = part.1 in
    search rules

pub slice_bounds-result-count : goal.slice_bounds-result-count
slice_bounds-result-count c =
    let below : c.args.place < length c.self.inside.ends.items = omega (arith, c.if-place-len.false, c.len.ensures, c.self.inside.ends.ok.0) in
    (part_after _ _ _ _ _ c.self.invariant below c.if-place-eq0.false c.index-2.ensures c.index.ensures).0

pub slice_bounds-result-start : goal.slice_bounds-result-start
slice_bounds-result-start c =
    let below : c.args.place < length c.self.inside.ends.items = omega (arith, c.if-place-len.false, c.len.ensures, c.self.inside.ends.ok.0) in
    let part = part_after c.self.inside.states.items c.self.inside.ends.items c.args.place _ _ c.self.invariant below c.if-place-eq0.false c.index-2.ensures c.index.ensures in
    let low = part.0 in
    let high = part.1 in
    search rules

pub slice_bounds-result-end-2 : goal.slice_bounds-result-end-2
slice_bounds-result-end-2 c =
    let below : c.args.place < length c.self.inside.ends.items = omega (arith, c.if-place-len.false, c.len.ensures, c.self.inside.ends.ok.0) in
    let part = part_after c.self.inside.states.items c.self.inside.ends.items c.args.place _ _ c.self.invariant below c.if-place-eq0.false c.index-2.ensures c.index.ensures in
    let low = part.0 in
    let high = part.1 in
    search rules

pub returns : goal.returns
returns c =
    let below : c.args.place < length c.self.inside.ends.items = omega (arith, c.if-place-len.false, c.len.ensures, c.self.inside.ends.ok.0) in
    let part = part_after c.self.inside.states.items c.self.inside.ends.items c.args.place c.index-2.result.now c.index.result.now c.self.invariant below c.if-place-eq0.false c.index-2.ensures c.index.ensures in
    rw (c.deref-2.ensures.value, ← c.self.view_is) part.2

pub returns-then-place-len : goal.returns-then-place-len
returns-then-place-len c =
    let long : length c.self.inside.ends.items ≡ length c.args.self.now = sym (length-pieces c.self.inside.states.items 0 c.self.inside.ends.items) ∙ ap length c.self.view_is in
    let past : length c.args.self.now ≤ c.args.place = omega (arith, long, c.if-place-len.true, c.len.ensures, c.self.inside.ends.ok.0) in
    sym (get_or_past c.args.self.now c.args.place [] past)
