use Rattle.std.proofs.Common.{refl, arith}
use Rattle.conf_decide.proofs.TestLaws.{pairs_cut, violates, over_push, few_push}
use Rattle.conf_decide.proofs.search.add.Goals as goal

pub returns-then-len-setting-clause-tested : goal.returns-then-len-setting-clause-tested
returns-then-len-setting-clause-tested g c = pairs_cut _ _ _ _ _ _ _ _ c.requires.newest c.args.found.depth refl (over_push _ _ _ _ c.if-len-setting.true c.len.ensures)

pub returns-clause-tested : goal.returns-clause-tested
returns-clause-tested g c =
    violates _ _ _ _ _ _ _ _ c.requires.newest c.in_ok-trace.trace c.in-Some.shown c.len-number.result c.in-Some.ensures
    (few_push _ _ _ _ (omega (arith, c.if-len-setting.false)) c.len.ensures) c.len-number.ensures
    (λ traces edges. c.in_ok-trace.ensures traces (rw c.in_ok-push.ensures.ok edges))
