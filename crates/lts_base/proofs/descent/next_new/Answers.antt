use Rattle.std.proofs.Common.{◌≡◌, ◌<◌, length, get_or, None, Some, arith, rules}
use Rattle.std.proofs.lemmas.Grind.{common_steps}
use Rattle.lts_base.proofs.DescentEnds.{IsLooked-pop}
use Rattle.lts_base.proofs.descent.next_new.Goals as goal

pub returns-in-None-clause-found : goal.returns-in-None-clause-found
returns-in-None-clause-found c =
    let base : c.in-Some.block.base < length c.looks.descent.pending.items = omega (arith, c.if-len-block.false, c.len.ensures, c.looks.descent.pending.ok.0) in
    let looked = IsLooked-pop _ _ _ _ _ _ _ _ _ _ c.in-Some-pop.ensures.items (rw c.deref.ensures.value at c.in-Some.ensures.1) base c.looks.invariant.descent in
    let new : get_or c.looks.descent.places.items c.in-Some-pop.state None ≡ None = search rules in
    (looked.low, new, looked.leads, looked.descent)

pub meet-requires : goal.meet-requires
meet-requires c =
    let base : c.in-Some.block.base < length c.looks.descent.pending.items = omega (arith, c.if-len-block.false, c.len.ensures, c.looks.descent.pending.ok.0) in
    let looked = IsLooked-pop _ _ _ _ _ _ _ _ _ _ c.in-Some-pop.ensures.items (rw c.deref.ensures.value at c.in-Some.ensures.1) base c.looks.invariant.descent in
    let place : get_or c.looks.descent.places.items c.in-Some-pop.state None ≡ Some c.in-Some-index.place = grind (arith, common_steps) in
    record { state = looked.low; place = place; source = looked.source; base = looked.bases; descent = looked.descent }
