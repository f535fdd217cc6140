use Rattle.std.proofs.Common.{◌≡◌, length, take, ◌<◌, ◌≤◌, ◌-◌, IfSome}
use Rattle.edge_io.specs.Outside.{KeepsFiles}
use Rattle.edge_io.proofs.load.join_pieces.Given as goal

abbrev pub invariant-loop-content : goal.invariant-loop-content
invariant-loop-content g l =
    record {
      room : 0 < length l.piece;
      short : length l.content.items ≤ l.most;
      front : IfSome ((g.F.Files.told l.fn.files).content l.name) (λ c. (l.content.items ≡ take (length l.content.items) c) × (length l.content.items ≤ length c));
      keeps : KeepsFiles (g.F.Files.told l.fn.files) (g.F.Files.told l.files);
    }

abbrev pub decreases-loop-content : goal.decreases-loop-content
decreases-loop-content g l = l.most - length l.content.items
