use Rattle.std.proofs.Common.{◌≡◌, take}
use Rattle.cert_text.proofs.packed.PackedLists.of.Given as goal

abbrev pub invariant-lists : goal.invariant-lists
invariant-lists l = l.packed ≡ take l.list-index l.lists
