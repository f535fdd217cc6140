use Rattle.std.proofs.Common.{◌≡◌, take, map}
use Rattle.cert_check.specs.Index.{left_of}
use Rattle.cert_check.proofs.index.named_lefts.Given as goal

abbrev pub invariant-pairs : goal.invariant-pairs
invariant-pairs l = l.places.items ≡ map left_of (take l.pair-index l.pairs)
