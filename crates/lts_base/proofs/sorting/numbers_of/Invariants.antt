use Rattle.std.proofs.Common.{take}
use Rattle.lts_base.specs.Numbered.{AreNumbersOf}
use Rattle.lts_base.proofs.sorting.numbers_of.Given as goal

abbrev pub invariant-texts : goal.invariant-texts
invariant-texts l = AreNumbersOf l.labels (take l.text-index l.texts) l.numbers.items
