use Rattle.std.proofs.Common.{◌<◌, ◌≤◌, length, refl, ◌∙◌, arith}
use Rattle.std.proofs.lemmas.Bool.{false≢true}
use Rattle.cert_check.proofs.QuietLaws.{IsReturning-none, IsReturning-more, IsReturning-met, IsReturning-all}
use Rattle.cert_check.proofs.side.returns.Goals as goal

pub finds-init : goal.finds-init
finds-init c = record {
  states = c.in_ok-spread.ensures.states ∙ c.clear.ensures.states ∙ c.requires.states;
  returning = IsReturning-none c.args.lts.now c.args.state _ _ c.clear.ensures.found c.in_ok-spread.ensures.adds;
}

pub returns-then-found-state-clause-back : goal.returns-then-found-state-clause-back
returns-then-found-state-clause-back c =
    let below : c.finds.at < length c.finds.marks.found = omega (arith, c.finds-test.true, c.len.ensures.value) in
    (λ _. IsReturning-met c.args.lts.now c.args.state _ _ _ below c.at-found.ensures.value c.if-found-state.true c.finds.invariant.returning, λ _. refl)

pub finds-preserved : goal.finds-preserved
finds-preserved c =
    let below : c.finds.at < length c.finds.marks.found = omega (arith, c.finds-test.true, c.len.ensures.value) in
    record {
      states = c.in_ok-spread-2.ensures.states ∙ c.finds.invariant.states;
      returning = IsReturning-more c.args.lts.now c.args.state _ _ _ _ below c.at-found.ensures.value c.if-found-state.false c.in_ok-spread-2.ensures.adds c.finds.invariant.returning;
    }

pub returns-clause-back : goal.returns-clause-back
returns-clause-back c =
    let over : length c.finds.marks.found ≤ c.finds.at = omega (arith, c.finds-test.false, c.len.ensures.value) in
    (λ t. absurd (false≢true t), λ cycle. absurd (IsReturning-all c.args.lts.now c.args.state _ _ over c.finds.invariant.returning cycle))
