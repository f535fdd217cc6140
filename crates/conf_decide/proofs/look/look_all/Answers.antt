use Rattle.std.proofs.Common.{arith}
use Rattle.conf_decide.proofs.EndLaws.{row_over}
use Rattle.conf_decide.proofs.GrowLaws.{took_none, took_more, Grows-same, Grows-trans}
use Rattle.conf_decide.proofs.look.look_all.Goals as goal

pub returns-clause-outcome : goal.returns-clause-outcome
returns-clause-outcome g c = row_over _ _ _ _ _ _ c.items.invariant.setting c.items.invariant.run (omega (arith, c.items-test.false))

pub returns-in_err-answer-clause-imp : goal.returns-in_err-answer-clause-imp
returns-in_err-answer-clause-imp g c = Grows-trans _ _ _ c.items.invariant.imp c.look.ensures.imp

pub returns-in_err-answer-clause-spec : goal.returns-in_err-answer-clause-spec
returns-in_err-answer-clause-spec g c = Grows-trans _ _ _ c.items.invariant.spec c.look.ensures.spec

pub returns-in_err-answer-clause-taken : goal.returns-in_err-answer-clause-taken
returns-in_err-answer-clause-taken g c = took_more _ _ _ _ _ _ _ _ _ c.items.invariant.taken c.look.ensures.taken (omega (arith, c.next_item-next.ensures.low, c.next_item-next.ensures.high))

pub returns-in-Some-clause-imp : goal.returns-in-Some-clause-imp
returns-in-Some-clause-imp g c = Grows-trans _ _ _ c.items.invariant.imp c.look.ensures.imp

pub returns-in-Some-clause-spec : goal.returns-in-Some-clause-spec
returns-in-Some-clause-spec g c = Grows-trans _ _ _ c.items.invariant.spec c.look.ensures.spec

pub returns-in-Some-clause-taken : goal.returns-in-Some-clause-taken
returns-in-Some-clause-taken g c = took_more _ _ _ _ _ _ _ _ _ c.items.invariant.taken c.look.ensures.taken (omega (arith, c.next_item-next.ensures.low, c.next_item-next.ensures.high))

pub returns-clause-taken : goal.returns-clause-taken
returns-clause-taken g c = took_more _ _ _ _ _ _ _ _ _ c.items.invariant.taken (took_none _ _ 0) (omega (arith, c.items.invariant.number))

pub items-init : goal.items-init
items-init g c = record {
  setting = c.requires.setting;
  imp = Grows-same _;
  spec = Grows-same _;
  run = c.requires.run;
  table = omega arith;
  taken = took_none _ _ _;
  steps = omega arith;
  number = omega arith;
}

pub items-preserved : goal.items-preserved
items-preserved g c =
    let i = c.items.invariant in
    record {
      setting = c.look.ensures.setting;
      imp = Grows-trans _ _ _ i.imp c.look.ensures.imp;
      spec = Grows-trans _ _ _ i.spec c.look.ensures.spec;
      run = rw c.in_default.is at c.in_ok-answer.ensures.outcome;
      table = omega (arith, i.table, c.look.ensures.table);
      taken = took_more _ _ _ _ _ _ _ _ _ i.taken c.look.ensures.taken (omega (arith, c.next_item-next.ensures.low));
      steps = omega (arith, i.steps, c.look.ensures.steps, c.next_item-next.ensures.low);
      number = omega (arith, c.next_item-next.ensures.high);
    }
