use Rattle.std.proofs.Common.{◌-◌, ◌<◌, length}
use Rattle.edge_io.specs.Outside.{KeepsFiles}
use Rattle.aut_text.proofs.LoadLaws.{IsFedTo}
use Rattle.aut_text.proofs.load.read_pieces.Given as goal

abbrev pub invariant-loop-reader : goal.invariant-loop-reader
invariant-loop-reader g l =
    record {
      room : 0 < length l.buffer;
      fed : IsFedTo ((g.F.Files.told l.fn.files).content l.name) l.most (g.T.Tap.took l.fn.tap) (g.T.Tap.took l.tap) l.reader l.done;
      keeps : KeepsFiles (g.F.Files.told l.fn.files) (g.F.Files.told l.files);
    }

abbrev pub decreases-loop-reader : goal.decreases-loop-reader
decreases-loop-reader g l = l.most - l.done
