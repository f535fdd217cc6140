use Rattle.std.proofs.Common.{◌≡◌, length, arith}
use Rattle.conf_decide.proofs.EndLaws.{paid_exit, paid_end, few_exit, few_end, nearer}
use Rattle.conf_decide.proofs.GrowLaws.{took_none, took_more, Grows-same, Grows-trans}
use Rattle.conf_decide.proofs.decide.look_on.Goals as goal

pub returns-in_err-answer-clause-steps : goal.returns-in_err-answer-clause-steps
returns-in_err-answer-clause-steps g c =
    let i = c.pairs.invariant in
    paid_exit _ _ _ _ _ _ _ _ _ _ _ i.setting i.run c.look_all.ensures.imp c.look_all.ensures.spec (rw c.len.ensures at c.pairs-test.true) i.steps c.look_all.ensures.steps

pub returns-in-Some-clause-steps : goal.returns-in-Some-clause-steps
returns-in-Some-clause-steps g c =
    let i = c.pairs.invariant in
    paid_exit _ _ _ _ _ _ _ _ _ _ _ i.setting i.run c.look_all.ensures.imp c.look_all.ensures.spec (rw c.len.ensures at c.pairs-test.true) i.steps c.look_all.ensures.steps

pub pairs-smaller : goal.pairs-smaller
pairs-smaller g c = nearer c.args.setting _ _ _ _ _ c.pairs.invariant.run (rw c.len.ensures at c.pairs-test.true)

pub returns-clause-steps : goal.returns-clause-steps
returns-clause-steps g c = paid_end _ _ _ _ _ _ _ _ c.pairs.invariant.setting c.pairs.invariant.run c.pairs.invariant.within c.pairs.invariant.steps

pub returns-in_err-answer-clause-imp : goal.returns-in_err-answer-clause-imp
returns-in_err-answer-clause-imp g c = Grows-trans _ _ _ c.pairs.invariant.imp c.look_all.ensures.imp

pub returns-in_err-answer-clause-spec : goal.returns-in_err-answer-clause-spec
returns-in_err-answer-clause-spec g c = Grows-trans _ _ _ c.pairs.invariant.spec c.look_all.ensures.spec

pub returns-in_err-answer-clause-taken : goal.returns-in_err-answer-clause-taken
returns-in_err-answer-clause-taken g c =
    let i = c.pairs.invariant in
    few_exit _ _ _ _ _ _ _ _ _ _ _ _ _ _ i.setting i.run c.look_all.ensures.imp c.look_all.ensures.spec (rw c.len.ensures at c.pairs-test.true) i.taken c.look_all.ensures.taken

pub returns-in-Some-clause-imp : goal.returns-in-Some-clause-imp
returns-in-Some-clause-imp g c = Grows-trans _ _ _ c.pairs.invariant.imp c.look_all.ensures.imp

pub returns-in-Some-clause-spec : goal.returns-in-Some-clause-spec
returns-in-Some-clause-spec g c = Grows-trans _ _ _ c.pairs.invariant.spec c.look_all.ensures.spec

pub returns-in-Some-clause-taken : goal.returns-in-Some-clause-taken
returns-in-Some-clause-taken g c =
    let i = c.pairs.invariant in
    few_exit _ _ _ _ _ _ _ _ _ _ _ _ _ _ i.setting i.run c.look_all.ensures.imp c.look_all.ensures.spec (rw c.len.ensures at c.pairs-test.true) i.taken c.look_all.ensures.taken

pub returns-clause-taken : goal.returns-clause-taken
returns-clause-taken g c = few_end _ _ _ _ _ _ _ _ _ _ c.pairs.invariant.setting c.pairs.invariant.run c.pairs.invariant.within c.pairs.invariant.taken

pub pairs-init : goal.pairs-init
pairs-init g c = record {
  setting = c.requires.setting;
  imp = Grows-same _;
  spec = Grows-same _;
  run = c.requires.run;
  within = omega arith;
  taken = took_none _ _ _;
  steps = omega arith;
}

pub pairs-preserved : goal.pairs-preserved
pairs-preserved g c =
    let i = c.pairs.invariant in
    record {
      setting = c.look_all.ensures.setting;
      imp = Grows-trans _ _ _ i.imp c.look_all.ensures.imp;
      spec = Grows-trans _ _ _ i.spec c.look_all.ensures.spec;
      run = rw c.in_default.is at c.in_ok-answer.ensures.outcome;
      within = omega (arith, c.look_all.ensures.table, rw c.len.ensures at c.pairs-test.true);
      taken = took_more _ _ _ _ _ _ _ _ _ i.taken c.look_all.ensures.taken (omega arith);
      steps = omega (arith, i.steps, c.look_all.ensures.steps);
    }

pub returns-clause-outcome : goal.returns-clause-outcome
returns-clause-outcome g c =
    let over : c.pairs.at ≡ length c.pairs.table = omega (arith, c.pairs.invariant.within, rw c.len.ensures at c.pairs-test.false) in
    rw (← over) c.pairs.invariant.run
