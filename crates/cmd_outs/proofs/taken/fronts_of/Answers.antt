use Rattle.std.proofs.Common.{arith, refl}
use Rattle.std.proofs.lemmas.Bool.{false≢true}
use Rattle.cmd_outs.proofs.TakenLaws.{fronts_all, fronts_more, fronts_skip}
use Rattle.cmd_outs.proofs.taken.fronts_of.Goals.{then-has_to_take, else-has_to_take}
use Rattle.cmd_outs.proofs.taken.fronts_of.Goals as goal

pub states-preserved : goal.states-preserved
states-preserved c = elim c.if-has_to_take.branch [
  | then-has_to_take w ↦ rw (w.fronts-is, w.count-is) (record {
    few = let few = c.states.invariant.few in omega (arith, few);
    fronts = fronts_more c.args.mode c.args.lts.now c.args.set.now c.states.state-index c.states.count _ _ _ c.states-test.true (w.if-has_to_take.ensures.0 refl) c.states.invariant.fronts w.advance.ensures;
  })
  | else-has_to_take w ↦ rw (w.fronts-is, w.count-is) (record {
    few = let few = c.states.invariant.few in omega (arith, few);
    fronts = fronts_skip c.args.mode c.args.lts.now c.args.set.now c.states.state-index c.states.count _ _ c.states-test.true (λ h. false≢true (w.if-has_to_take.ensures.1 h)) c.states.invariant.fronts;
  })
]

pub returns : goal.returns
returns c =
    let most = c.states.auto.state-index-end in
    let past = c.states-test.false in
    fronts_all c.args.mode c.args.lts.now c.args.set.now c.states.state-index c.states.count _ (omega (arith, most, past)) c.states.invariant.fronts
