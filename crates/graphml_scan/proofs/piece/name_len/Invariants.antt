use Rattle.std.proofs.Common.{◌≡◌, ◌+◌, drop}
use Rattle.std.specs.List.{prefix_len}
use Rattle.graphml_scan.specs.Piece.{is_in_name}
use Rattle.graphml_scan.proofs.piece.name_len.Given as goal

abbrev pub invariant-loop-byte : goal.invariant-loop-byte
invariant-loop-byte l =
    record {
      count : l.count ≡ l.byte-index;
      rest : l.count + prefix_len is_in_name (drop l.byte-index l.bytes) ≡ prefix_len is_in_name l.bytes;
    }
