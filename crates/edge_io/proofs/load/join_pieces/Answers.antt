use Rattle.std.proofs.Common.{rules}
use Rattle.edge_io.proofs.OutsideLaws.{front_more, KeepsFiles-then}
use Rattle.edge_io.proofs.load.join_pieces.Goals as goal

pub loop-content-preserved : goal.loop-content-preserved
loop-content-preserved g c =
    let items = c.in_ok-extend_from_slice.ensures.items in
    let inv = c.loop-content.invariant in
    record {
      room = search rules;
      short = search rules;
      front = front_more _ _ _ _ _ _ _ (inv.keeps.contents c.args.name.now) (search rules) items c.in_ok-count.ensures.count inv.front c.in_ok-count.ensures.bytes;
      keeps = KeepsFiles-then inv.keeps c.in_ok-count.ensures.keeps;
    }
