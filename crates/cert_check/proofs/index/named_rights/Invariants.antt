use Rattle.std.proofs.Common.{◌≡◌, take, map}
use Rattle.cert_check.specs.Index.{right_of}
use Rattle.cert_check.proofs.index.named_rights.Given as goal

abbrev pub invariant-pairs : goal.invariant-pairs
invariant-pairs l = l.places.items ≡ map right_of (take l.pair-index l.pairs)
