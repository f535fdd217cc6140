use Rattle.std.proofs.Common.{◌≡◌, length, drop}
use Rattle.std.specs.Str.{bytes_eq}
use Rattle.graphml_scan.proofs.piece.is_same.Given as goal

abbrev pub invariant-loop-byte : goal.invariant-loop-byte
invariant-loop-byte l =
    record {
      index : l.index ≡ l.byte-index;
      length : length l.text ≡ length l.other;
      same : bytes_eq (drop l.byte-index l.text) (drop l.byte-index l.other) ≡ bytes_eq l.text l.other;
    }
