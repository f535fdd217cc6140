use Rattle.std.proofs.lemmas.Bool.{iff_false}
use Rattle.std.proofs.lemmas.Result.{IfOk-weaker}
use Rattle.conf_decide.proofs.WrongLaws.{item_imp, item_spec}
use Rattle.conf_decide.proofs.LookLaws.{few_pairs, small_depth, small_at, look_skip, look, look_empty, look_there, look_newest, look_tested, look_imp_full, look_spec_full}
use Rattle.conf_decide.proofs.GrowLaws.{took_none, Grows-same}
use Rattle.conf_decide.proofs.look.look.Goals as goal

pub allows-requires-clause-item : goal.allows-requires-clause-item
allows-requires-clause-item g c = item_spec _ _ _ _ c.requires.setting c.item_at-item.ensures.item

pub returns-then-not-allows-clause-outcome : goal.returns-then-not-allows-clause-outcome
returns-then-not-allows-clause-outcome g c =
    look_skip _ _ _ _ _ _ _ _ c.requires.setting c.item_at-item.ensures.item c.item_at-item.ensures.place c.requires.run c.requires.at c.at-from.ensures (iff_false c.allows.ensures c.if-not-allows.true)

pub overflow_add-depth : goal.overflow_add-depth
overflow_add-depth g c = record { fits = small_depth _ _ _ _ _ _ _ c.requires.setting c.requires.run c.requires.at c.at-from.ensures }

pub step_both-requires-clause-imp_item : goal.step_both-requires-clause-imp_item
step_both-requires-clause-imp_item g c = item_imp _ _ _ _ c.requires.setting c.item_at-item.ensures.item

pub step_both-requires-clause-spec_item : goal.step_both-requires-clause-spec_item
step_both-requires-clause-spec_item g c = item_spec _ _ _ _ c.requires.setting c.item_at-item.ensures.item

pub returns-then-has-clause-outcome : goal.returns-then-has-clause-outcome
returns-then-has-clause-outcome g c =
    let lk = look _ _ _ _ _ _ _ _ _ _ c.requires.setting c.item_at-item.ensures.item c.item_at-item.ensures.place c.requires.run c.requires.at c.at-from.ensures (c.allows.ensures.0 c.if-not-allows.false)
    c.in_ok-step_both.ensures.imp c.in_ok-step_both.ensures.spec c.in_ok-step_both.ensures.imp_walk c.in_ok-step_both.ensures.spec_walk in
    look_there _ _ _ _ _ _ _ _ _ _ lk _ _ _ c.in-Pair.is c.in_ok-step_both.ensures.pace (c.has.ensures.0 c.if-has.true)

pub overflow_cast-from : goal.overflow_cast-from
overflow_cast-from g c = record { fits = small_at _ _ _ _ _ _ c.requires.setting c.requires.run c.requires.at }

pub add-requires-clause-newest : goal.add-requires-clause-newest
add-requires-clause-newest g c =
    let lk = look _ _ _ _ _ _ _ _ _ _ c.requires.setting c.item_at-item.ensures.item c.item_at-item.ensures.place c.requires.run c.requires.at c.at-from.ensures (c.allows.ensures.0 c.if-not-allows.false)
    c.in_ok-step_both.ensures.imp c.in_ok-step_both.ensures.spec c.in_ok-step_both.ensures.imp_walk c.in_ok-step_both.ensures.spec_walk in
    look_newest _ _ _ _ _ _ _ _ _ _ lk _ _ _ c.in-Pair.is c.in_ok-step_both.ensures.pace (iff_false c.has.ensures c.if-has.false)

pub add-requires-clause-earlier : goal.add-requires-clause-earlier
add-requires-clause-earlier g c = (add-requires-clause-newest g c).edges.earlier

pub add-requires-clause-few : goal.add-requires-clause-few
add-requires-clause-few g c = few_pairs c.args.setting _ _ _ _ _ c.requires.run

pub returns-in-Nothing-clause-outcome : goal.returns-in-Nothing-clause-outcome
returns-in-Nothing-clause-outcome g c =
    let lk = look _ _ _ _ _ _ _ _ _ _ c.requires.setting c.item_at-item.ensures.item c.item_at-item.ensures.place c.requires.run c.requires.at c.at-from.ensures (c.allows.ensures.0 c.if-not-allows.false)
    c.in_ok-step_both.ensures.imp c.in_ok-step_both.ensures.spec c.in_ok-step_both.ensures.imp_walk c.in_ok-step_both.ensures.spec_walk in
    look_empty _ _ _ _ _ _ _ _ _ _ lk _ c.in-Nothing.is c.in_ok-step_both.ensures.pace

pub returns-in-ImpFull-clause-outcome : goal.returns-in-ImpFull-clause-outcome
returns-in-ImpFull-clause-outcome g c =
    let lk = look _ _ _ _ _ _ _ _ _ _ c.requires.setting c.item_at-item.ensures.item c.item_at-item.ensures.place c.requires.run c.requires.at c.at-from.ensures (c.allows.ensures.0 c.if-not-allows.false)
    c.in_ok-step_both.ensures.imp c.in_ok-step_both.ensures.spec c.in_ok-step_both.ensures.imp_walk c.in_ok-step_both.ensures.spec_walk in
    look_imp_full _ _ _ _ _ _ _ _ _ _ lk _ _ c.in-ImpFull.is c.in_ok-step_both.ensures.pace

pub returns-in-SpecFull-clause-outcome : goal.returns-in-SpecFull-clause-outcome
returns-in-SpecFull-clause-outcome g c =
    let lk = look _ _ _ _ _ _ _ _ _ _ c.requires.setting c.item_at-item.ensures.item c.item_at-item.ensures.place c.requires.run c.requires.at c.at-from.ensures (c.allows.ensures.0 c.if-not-allows.false)
    c.in_ok-step_both.ensures.imp c.in_ok-step_both.ensures.spec c.in_ok-step_both.ensures.imp_walk c.in_ok-step_both.ensures.spec_walk in
    look_spec_full _ _ _ _ _ _ _ _ _ _ lk _ _ c.in-SpecFull.is c.in_ok-step_both.ensures.pace

pub returns-else-has-clause-outcome : goal.returns-else-has-clause-outcome
returns-else-has-clause-outcome g c =
    let lk = look _ _ _ _ _ _ _ _ _ _ c.requires.setting c.item_at-item.ensures.item c.item_at-item.ensures.place c.requires.run c.requires.at c.at-from.ensures (c.allows.ensures.0 c.if-not-allows.false)
    c.in_ok-step_both.ensures.imp c.in_ok-step_both.ensures.spec c.in_ok-step_both.ensures.imp_walk c.in_ok-step_both.ensures.spec_walk in
    IfOk-weaker c.add.result _ _ (λ answer tested. look_tested _ _ _ _ _ _ _ _ _ _ lk _ _ _ c.in-Pair.is c.in_ok-step_both.ensures.pace (iff_false c.has.ensures c.if-has.false) c.add.new.table answer tested) c.add.ensures.tested

pub returns-then-not-allows-clause-taken : goal.returns-then-not-allows-clause-taken
returns-then-not-allows-clause-taken g c = took_none _ _ _

pub returns-then-not-allows-clause-imp : goal.returns-then-not-allows-clause-imp
returns-then-not-allows-clause-imp g c = Grows-same _

pub returns-then-not-allows-clause-spec : goal.returns-then-not-allows-clause-spec
returns-then-not-allows-clause-spec g c = Grows-same _
