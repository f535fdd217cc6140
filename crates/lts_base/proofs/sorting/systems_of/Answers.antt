use Rattle.std.proofs.Common.{Contains, subst, sym, All}
use Rattle.std.proofs.lemmas.List.Elements.{All-push}
use Rattle.lts_base.specs.Raw.{RawSystem}
use Rattle.lts_base.specs.System.{IsSystem}
use Rattle.lts_base.proofs.SortingLaws.{All-labels_of, AreSystemsFor-step}
use Rattle.lts_base.proofs.sorting.systems_of.Goals as goal

pub system_of-requires : goal.system_of-requires
system_of-requires c =
    subst (λ (r : RawSystem). All (Contains c.args.labels.now.texts) r.labels) (sym c.system-item.is)
    (All-labels_of (Contains c.args.labels.now.texts) c.args.raw.now c.systems.system-index c.system-item.result c.systems-test.true c.requires)

pub systems-preserved : goal.systems-preserved
systems-preserved c =
    rw c.in_ok-push.ensures.ok (record {
      over = AreSystemsFor-step c.args.labels.now c.args.raw.now c.systems.systems c.systems.system-index c.system-item.result c.in_ok-system_of.field-0 c.systems.invariant.over
          c.systems-test.true c.system-item.is c.in_ok-system_of.ensures.ok;
      sound = All-push IsSystem _ _ c.systems.invariant.sound c.in_ok-system_of.ensures.sound;
    })
