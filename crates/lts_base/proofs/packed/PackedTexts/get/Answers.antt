use Rattle.std.proofs.Common.{rules, ◌≡◌, refl, arith}
use Rattle.lts_base.proofs.PackedLaws.{place_inside, part_at, part_after, starts_at}
use Rattle.lts_base.proofs.packed.PackedTexts.get.Goals as goal

pub index-requires : goal.index-requires
index-requires c = omega (arith, place_inside c.self.inside.bytes.items c.self.inside.ends.items c.args.self.now c.args.place c.self.view_is c.requires, c.self.inside.ends.ok.0)

pub index-requires-2 : goal.index-requires-2
index-requires-2 c = omega (arith, place_inside c.self.inside.bytes.items c.self.inside.ends.items c.args.self.now c.args.place c.self.view_is c.requires, c.self.inside.ends.ok.0)

pub slice_bounds-result-end : goal.slice_bounds-result-end
slice_bounds-result-end c =
    let below = place_inside c.self.inside.bytes.items c.self.inside.ends.items c.args.self.now c.args.place c.self.view_is c.requires in
    let starts : 0 ≡ starts_at 0 c.self.inside.ends.items c.args.place = rw (c.if-place-eq0.true) refl in
    let part = part_at c.self.inside.bytes.items c.self.inside.ends.items c.args.place 0 c.index.result.now c.self.invariant below starts c.index.ensures in
    let high = part.1 in
    search rules

pub slice_bounds-result-count : goal.slice_bounds-result-count
slice_bounds-result-count c =
    let below = place_inside c.self.inside.bytes.items c.self.inside.ends.items c.args.self.now c.args.place c.self.view_is c.requires in
    (part_after _ _ _ _ _ c.self.invariant below c.if-place-eq0.false c.index-2.ensures c.index.ensures).0

pub slice_bounds-result-start : goal.slice_bounds-result-start
slice_bounds-result-start c =
    let below = place_inside c.self.inside.bytes.items c.self.inside.ends.items c.args.self.now c.args.place c.self.view_is c.requires in
    let part = part_after c.self.inside.bytes.items c.self.inside.ends.items c.args.place _ _ c.self.invariant below c.if-place-eq0.false c.index-2.ensures c.index.ensures in
    let low = part.0 in
    let high = part.1 in
    search rules

pub slice_bounds-result-end-2 : goal.slice_bounds-result-end-2
slice_bounds-result-end-2 c =
    let below = place_inside c.self.inside.bytes.items c.self.inside.ends.items c.args.self.now c.args.place c.self.view_is c.requires in
    let part = part_after c.self.inside.bytes.items c.self.inside.ends.items c.args.place _ _ c.self.invariant below c.if-place-eq0.false c.index-2.ensures c.index.ensures in
    let low = part.0 in
    let high = part.1 in
    search rules

pub returns : goal.returns
returns c =
    let below = place_inside c.self.inside.bytes.items c.self.inside.ends.items c.args.self.now c.args.place c.self.view_is c.requires in
    let part = part_after c.self.inside.bytes.items c.self.inside.ends.items c.args.place c.index-2.result.now c.index.result.now c.self.invariant below c.if-place-eq0.false c.index-2.ensures c.index.ensures in
    rw (c.deref-2.ensures.value, ← c.self.view_is) part.2
