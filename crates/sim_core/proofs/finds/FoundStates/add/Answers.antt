use Rattle.std.proofs.Common.{◌≡◌, ◌<◌, length, get_or, true, false, sym, refl, ◌∙◌, inl, length-set, arith}
use Rattle.std.proofs.lemmas.List.{get_or_read}
use Rattle.lts_base.proofs.MarkLaws.{IsMarked-push}
use Rattle.sim_core.proofs.FindLaws.{room_for_one}
use Rattle.sim_core.proofs.finds.FoundStates.add.Goals as goal

pub push_reserved-requires : goal.push_reserved-requires
push_reserved-requires c =
    let low : c.args.state < length c.self.inside.marked.items = rw (← c.self.view_is) at c.requires in
    let mark : get_or c.self.inside.marked.items c.args.state false ≡ false = sym (get_or_read _ _ _ low c.index.ensures false) ∙ c.if-index.false in
    let room = room_for_one _ _ _ c.self.invariant.0 low mark in
    omega (arith, room, c.self.invariant.1)

pub returns-then-index-clause-found : goal.returns-then-index-clause-found
returns-then-index-clause-found c =
    let low : c.args.state < length c.self.inside.marked.items = rw (← c.self.view_is) at c.requires in
    let mark : get_or c.self.inside.marked.items c.args.state false ≡ true = sym (get_or_read _ _ _ low c.index.ensures false) ∙ c.if-index.true in
    rw (← c.self.view_is) (inl (refl, c.self.invariant.0.all c.args.state mark))

pub invariant_of-self : goal.invariant_of-self
invariant_of-self c =
    let low : c.args.state < length c.self.inside.marked.items = rw (← c.self.view_is) at c.requires in
    let mark : get_or c.self.inside.marked.items c.args.state false ≡ false = sym (get_or_read _ _ _ low c.index.ensures false) ∙ c.if-index.false in
    (rw c.push_reserved.ensures.items (IsMarked-push _ _ _ c.self.invariant.0 low mark), rw (length-set c.self.inside.marked.items c.args.state true, c.push_reserved.ensures.capacity) c.self.invariant.1)
