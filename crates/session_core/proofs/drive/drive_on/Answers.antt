use Rattle.std.proofs.Common.{arith}
use Rattle.session_core.proofs.PlayLaws.{played_next, done_less}
use Rattle.session_core.proofs.StallLaws.{stalls_next}
use Rattle.session_core.proofs.drive.drive_on.Goals as goal

pub loop-verdict-smaller : goal.loop-verdict-smaller
loop-verdict-smaller g c = done_less _ _ _ _ c.next.ensures.seated c.in-Ok.ensures.turned

pub loop-verdict-preserved : goal.loop-verdict-preserved
loop-verdict-preserved g c =
    let i = c.loop-verdict.invariant in
    let t = c.in-Ok.ensures in
    record {
      plays = played_next _ _ _ _ _ i.plays t.turned;
      later = record { faults = omega (arith, i.later.faults, t.later.faults); idles = omega (arith, i.later.idles, t.later.idles) };
      stalled = stalls_next _ _ _ _ _ _ i.later t.later i.stalled t.stalled;
    }

pub returns-in-Err : goal.returns-in-Err
returns-in-Err g c =
    let i = c.loop-verdict.invariant in
    let t = c.in-Err.ensures in
    record {
      driven = (_, i.plays, t.turned);
      broken = λ h. let r = t.broken h in record { rose = omega (arith, i.later.faults, r.rose) };
      stalled = tt;
      later = record { faults = omega (arith, i.later.faults, t.later.faults); idles = omega (arith, i.later.idles, t.later.idles) };
    }
