use Rattle.std.proofs.Common.{refl}
use Rattle.edge_io.specs.declared.act.Heard.TheVariants.{Line, TooLong, End}
use Rattle.line_link.specs.Hearing.{pending}
use Rattle.line_link.proofs.GainLaws.{KeepsStream-then}
use Rattle.line_link.proofs.HearLaws.{ahead_read, heard_ahead, heard_now}
use Rattle.line_link.proofs.meet.meet.Goals as goal

pub returns-in-Line-clause-heard : goal.returns-in-Line-clause-heard
returns-in-Line-clause-heard g c =
    let l = c.loop-stream in
    let told = g.S.Stream.told l.stream in
    let s = pending told l.lines.bytes l.is_over in
    let t = pending told c.take_line.new.self.bytes l.is_over in
    heard_ahead _ s t Line _ l.invariant.ahead (heard_now s t Line _ c.in-Line.ensures refl refl refl)

pub returns-in-Long-clause-heard : goal.returns-in-Long-clause-heard
returns-in-Long-clause-heard g c =
    let l = c.loop-stream in
    let told = g.S.Stream.told l.stream in
    let s = pending told l.lines.bytes l.is_over in
    let t = pending told c.take_line.new.self.bytes l.is_over in
    heard_ahead _ s t TooLong _ l.invariant.ahead (heard_now s t TooLong _ c.in-Long.ensures refl refl refl)

pub returns-then-is_over-clause-heard : goal.returns-then-is_over-clause-heard
returns-then-is_over-clause-heard g c =
    let l = c.loop-stream in
    let told = g.S.Stream.told l.stream in
    let part = c.in-Part.ensures in
    let s = pending told l.lines.bytes l.is_over in
    let t = pending told c.take_line.new.self.bytes l.is_over in
    heard_ahead _ s t End _ l.invariant.ahead (heard_now s t End _ (c.if-is_over.true, part.0, part.1) refl refl refl)

pub loop-stream-preserved : goal.loop-stream-preserved
loop-stream-preserved g c =
    let l = c.loop-stream in
    let told = g.S.Stream.told l.stream in
    let n = c.read_more.new in
    let part = c.in-Part.ensures in
    let s = pending told l.lines.bytes l.is_over in
    let t = pending (g.S.Stream.told n.stream) n.lines.bytes n.is_over in
    let more = rw c.in-None.is at c.in_ok-heard.ensures.more in
    record {
      ahead = ahead_read _ s t n.lines.said l.invariant.ahead part.0.0 c.if-is_over.false (rw part.1 at more);
      keeps = KeepsStream-then l.invariant.keeps c.in_ok-heard.ensures.later;
    }
