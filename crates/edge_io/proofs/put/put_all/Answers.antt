use Rattle.std.proofs.Common.{arith}
use Rattle.edge_io.proofs.OutsideLaws.{AppendsTo-more, KeepsSink-then}
use Rattle.edge_io.proofs.put.put_all.Goals as goal

pub loop-done-preserved : goal.loop-done-preserved
loop-done-preserved g c =
    record {
      within = omega (arith, c.in_ok-done.ensures.count);
      front = AppendsTo-more _ _ _ c.loop-done.invariant.front c.in_ok-done.ensures.bytes;
      keeps = KeepsSink-then c.loop-done.invariant.keeps c.write.ensures.keeps;
    }
