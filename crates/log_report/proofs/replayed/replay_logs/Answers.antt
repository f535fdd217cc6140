use Rattle.std.proofs.Common.{List, ℕ, length, ap, arith}
use Rattle.trace_log.specs.declared.judge.LogVerdict.{LogVerdict}
use Rattle.trace_log.proofs.VerdictLaws.{zip_long}
use Rattle.log_report.specs.Replayed.{IsLogVerdict}
use Rattle.log_report.proofs.replayed.replay_logs.Goals as goal

pub count_fails-requires : goal.count_fails-requires
count_fails-requires c =
    let same = ap {A = List LogVerdict} {B = ℕ} length c.deref-2.ensures.value in
    let long = zip_long (IsLogVerdict c.args.labels.now c.args.system.now) _ _ c.in_ok-verdicts.ensures in
    let few = c.requires.few in
    omega (arith, same, long, few)

pub count_offs-requires : goal.count_offs-requires
count_offs-requires c =
    let same = ap {A = List LogVerdict} {B = ℕ} length c.deref-3.ensures.value in
    let long = zip_long (IsLogVerdict c.args.labels.now c.args.system.now) _ _ c.in_ok-verdicts.ensures in
    let few = c.requires.few in
    omega (arith, same, long, few)
