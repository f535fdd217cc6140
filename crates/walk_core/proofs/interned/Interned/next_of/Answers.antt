use Rattle.std.proofs.Common.{◌≡◌, [], ◌<◌, length, get_or, All, sym, ◌∙◌, arith, rules}
use Rattle.std.proofs.lemmas.List.{get_or_read}
use Rattle.walk_core.specs.Walked.{set_at}
use Rattle.walk_core.specs.Interned.{AreAlone}
use Rattle.lts_base.specs.Finds.{AreNext}
use Rattle.lts_base.proofs.FindLaws.{IsNext-from_found}
use Rattle.walk_core.proofs.WalkLaws.{known_next}
use Rattle.walk_core.proofs.interned.Interned.next_of.Goals as goal

pub returns-then-known-gt0-clause-next : goal.returns-then-known-gt0-clause-next
returns-then-known-gt0-clause-next c =
    let low_node : c.args.node.0 < length c.self.inside.sets.keys = rw (← c.self.view_is) at c.requires.node in
    let here : c.index-as_slice-node.result ≡ get_or c.self.inside.sets.keys c.args.node.0 [] = get_or_read _ _ _ low_node (rw c.as_slice.ensures.keys at c.index-as_slice-node.is) [] in
    let are : AreNext c.args.self.now.system c.args.item (set_at c.args.self.now.sets c.args.node.0) c.find_next.new.search.found = rw (← c.self.view_is) (rw (c.states.ensures.value, here) at c.in_ok-find_next.ensures.found) in
    let single : AreAlone c.args.self.now.system.states c.args.self.now.sets c.self.inside.alone.items = rw (← c.self.view_is) c.self.invariant.0.single in
    let low : c.at.result < length c.self.inside.alone.items = omega (arith, c.at.ensures.within, c.in_ok-find_next.ensures.states, c.self.invariant.0.states, c.self.invariant.0.single.long) in
    known_next c.args.self.now _ _ c.self.inside.alone.items _ c.at.result _ single are (sym c.len.ensures.value ∙ c.if-len-eq1.true) c.at.ensures.value (get_or_read _ _ _ low c.index-known.ensures 0) c.if-known-gt0.true

pub returns-clause-next : goal.returns-clause-next
returns-clause-next c =
    let low_node : c.args.node.0 < length c.self.inside.sets.keys = rw (← c.self.view_is) at c.requires.node in
    let here : c.index-as_slice-node.result ≡ get_or c.self.inside.sets.keys c.args.node.0 [] = get_or_read _ _ _ low_node (rw c.as_slice.ensures.keys at c.index-as_slice-node.is) [] in
    let are : AreNext c.args.self.now.system c.args.item (set_at c.args.self.now.sets c.args.node.0) c.find_next.new.search.found = rw (← c.self.view_is) (rw (c.states.ensures.value, here) at c.in_ok-find_next.ensures.found) in
    let within : All (λ q. q < c.args.self.now.system.states) c.in_ok-next.next = search rules in
    (IsNext-from_found c.args.self.now.system _ _ _ _ are c.in_ok-next.ensures.sorted, within)
