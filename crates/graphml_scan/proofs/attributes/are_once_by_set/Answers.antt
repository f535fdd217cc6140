use Rattle.graphml_scan.proofs.TagLaws.{once_more, once_stop, set_more, set_stop}
use Rattle.graphml_scan.proofs.attributes.are_once_by_set.Goals as goal

pub returns-then-not-new : goal.returns-then-not-new
returns-then-not-new c =
    let there = set_stop _ _ c.attribute-item.result _ _ _ _ c.in_ok-name.ensures.items c.loop-attribute.invariant.names c.in_ok-new.ensures c.if-not-new.true in
    once_stop _ _ _ _ c.loop-attribute-test.true c.attribute-item.is there c.loop-attribute.invariant.once

pub loop-attribute-preserved : goal.loop-attribute-preserved
loop-attribute-preserved c =
    let (names, new) = set_more _ _ _ _ _ _ _ c.loop-attribute-test.true c.attribute-item.is c.in_ok-name.ensures.items c.loop-attribute.invariant.names c.in_ok-new.ensures c.if-not-new.false in
    record {
      names = names;
      once = once_more _ _ _ _ c.loop-attribute-test.true c.attribute-item.is new c.loop-attribute.invariant.once;
    }
