use Rattle.std.proofs.Common.{◌≡◌, take}
use Rattle.graphml_scan.specs.Token.{IsRun}
use Rattle.graphml_scan.proofs.token.near_len.Given as goal

abbrev pub invariant-loop-byte : goal.invariant-loop-byte
invariant-loop-byte l =
    record {
      count : l.count ≡ l.byte-index;
      plain : IsRun (take l.byte-index l.bytes);
    }
