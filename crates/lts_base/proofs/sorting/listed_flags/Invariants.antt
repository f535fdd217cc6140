use Rattle.std.proofs.Common.{◌≡◌, take, map}
use Rattle.lts_base.specs.Numbered.{shown}
use Rattle.lts_base.proofs.FlagLaws.{is_among}
use Rattle.lts_base.proofs.sorting.listed_flags.Given as goal

abbrev pub invariant-loop-line : goal.invariant-loop-line
invariant-loop-line l = l.flags.items ≡ map (is_among (take l.line l.inputs)) (shown l.texts)
