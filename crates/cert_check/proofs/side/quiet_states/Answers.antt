use Rattle.std.proofs.Common.{◌∙◌, sym}
use Rattle.cert_check.proofs.QuietLaws.{AreQuiet-none, AreQuiet-more, AreQuiet-all}
use Rattle.cert_check.proofs.side.quiet_states.Goals as goal

pub states-init : goal.states-init
states-init c = record {
  marks = c.in_ok-marks.ensures.states ∙ c.states-states.ensures.states;
  quiet = rw c.new-quiet.ensures.items (AreQuiet-none c.args.lts.now);
}

pub states-preserved : goal.states-preserved
states-preserved c = record {
  marks = c.in_ok-is.ensures.states ∙ c.states.invariant.marks;
  quiet = rw c.in_ok-push.ensures.items (AreQuiet-more c.args.lts.now _ _ _ c.in_ok-is.ensures.quiet c.states.invariant.quiet);
}

pub returns : goal.returns
returns c = AreQuiet-all c.args.lts.now _ _ _ (sym c.states-states.ensures.states) c.states-test.false c.states.auto.state-end c.states.invariant.quiet
