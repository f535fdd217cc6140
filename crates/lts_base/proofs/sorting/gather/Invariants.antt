use Rattle.std.proofs.Common.{◌≡◌, ◌++◌, take, All}
use Rattle.lts_base.specs.Numbered.{shown}
use Rattle.lts_base.specs.Sorting.{IsGoodLabel}
use Rattle.lts_base.proofs.sorting.gather.Given as goal

abbrev pub invariant-texts : goal.invariant-texts
invariant-texts l = record {
  seen : shown l.seen.items ≡ shown l.fn.seen.items ++ take l.text-index l.texts;
  good : All (IsGoodLabel l.rule) (take l.text-index l.texts);
}
