use Rattle.std.proofs.Common.{◌≡◌, take, All}
use Rattle.lts_base.specs.Alphabet.{IsLabel}
use Rattle.lts_base.specs.Numbered.{shown}
use Rattle.lts_base.specs.Sorting.{IsGoodLabel, all_labels}
use Rattle.lts_base.proofs.sorting.distinct_labels.Given as goal

abbrev pub invariant-systems : goal.invariant-systems
invariant-systems l = record {
  texts : shown l.texts.items ≡ all_labels (take l.system-index l.raw);
  good : All (IsGoodLabel l.rule) (all_labels (take l.system-index l.raw));
  labels : All IsLabel (all_labels (take l.system-index l.raw));
}
