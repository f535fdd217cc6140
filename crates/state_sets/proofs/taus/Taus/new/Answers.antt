use Rattle.std.proofs.Common.{arith}
use Rattle.state_sets.proofs.TauLaws.{flags_none, flags_more, flags_all}
use Rattle.state_sets.proofs.taus.Taus.new.Goals as goal

pub states-init : goal.states-init
states-init c = rw c.in_ok-flags.ensures.items (flags_none c.args.lts.now)

pub states-preserved : goal.states-preserved
states-preserved c = rw c.in_ok-push.ensures.items (flags_more c.args.lts.now _ _ _ c.has_move-leaves.ensures c.states.invariant)

pub returns : goal.returns
returns c = flags_all c.args.lts.now _ _ (omega (arith, c.states-test.false, c.states-count.ensures.states)) c.states.invariant
