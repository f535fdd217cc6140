use Rattle.std.proofs.Common.{◌∙◌, ◌+◌, ℕ, refl, ap}
use Rattle.trace_log.proofs.VerdictLaws.{judged_none, judged_more, judged_stop, stop_at}
use Rattle.trace_log.proofs.judge.follow.Goals as goal

pub entries-init : goal.entries-init
entries-init c = record {
  states = c.in_ok-set.ensures.states ∙ (c.in_ok-search.ensures.states ∙ c.states-states.ensures.states);
  place = refl;
  judged = judged_none _ _ _ _ c.in_ok-set.ensures.opening c.in_ok-set.ensures.within;
}

pub returns-in_default : goal.returns-in_default
returns-in_default c =
    let first = judged_stop _ _ _ _ _ _ c.states-states.ensures.system c.entries-test.true c.in_default.ensures c.entries.invariant.judged in
    stop_at _ _ _ _ _ _ _ c.stopped.ensures (ap {A = ℕ} {B = ℕ} (λ n. n + 1) c.entries.invariant.place) first

pub entries-preserved : goal.entries-preserved
entries-preserved c = record {
  states = c.in_ok-set-2.ensures.states ∙ c.entries.invariant.states;
  place = ap {A = ℕ} {B = ℕ} (λ n. n + 1) c.entries.invariant.place;
  judged = judged_more _ _ _ _ _ c.in-Some.item _ _ c.states-states.ensures.system c.entries-test.true c.in-Some.ensures.0 c.in-Some.ensures.1 c.in-Some.ensures.2 c.in_ok-set-2.ensures.next c.in_ok-set-2.ensures.within c.entries.invariant.judged;
}
