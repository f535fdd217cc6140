use Rattle.std.proofs.Common.{arith, ◌∙◌}
use Rattle.line_link.proofs.GainLaws.{KeepsStream-then, gains_more}
use Rattle.line_link.proofs.put.put_bytes.Goals as goal

pub loop-done-preserved : goal.loop-done-preserved
loop-done-preserved g c =
    record {
      within = omega (arith, c.in_ok-done.ensures.count);
      front = gains_more _ _ _ _ _ _ c.loop-done.invariant.front c.in_ok-done.ensures.bytes;
      answers = c.write.ensures.answers ∙ c.loop-done.invariant.answers;
      keeps = KeepsStream-then c.loop-done.invariant.keeps c.write.ensures.later;
    }
