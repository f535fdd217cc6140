use Rattle.std.proofs.Common.{Contains, subst, sym, ◌∙◌}
use Rattle.lts_base.proofs.SortingLaws.{AreNumbersOf-step}
use Rattle.lts_base.proofs.sorting.numbers_of.Goals as goal

pub unreachable-requires : goal.unreachable-requires
unreachable-requires c =
    let has : Contains c.args.labels.now.texts c.text-item.result =
    subst (Contains c.args.labels.now.texts) (sym c.text-item.is) (c.requires c.texts.text-index c.text-item.result c.texts-test.true) in
    c.in_default.ensures (subst (Contains c.args.labels.now.texts) (sym c.as_slice.ensures) has)

pub texts-preserved : goal.texts-preserved
texts-preserved c =
    rw c.in_ok-push.ensures.items (AreNumbersOf-step c.args.labels.now c.args.texts.now c.texts.numbers.items c.texts.text-index c.in-Some.number c.text-item.result c.texts.invariant c.texts-test.true
    c.text-item.is c.in-Some.ensures.0 (c.in-Some.ensures.1 ∙ c.as_slice.ensures))
