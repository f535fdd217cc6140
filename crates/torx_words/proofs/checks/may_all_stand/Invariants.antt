use Rattle.std.proofs.Common.{◌≡◌, map}
use Rattle.std.specs.Prelude.{drop}
use Rattle.torx_words.specs.Accepted.{may_all_stand}
use Rattle.torx_words.specs.Named.{entry_from}
use Rattle.torx_words.proofs.checks.may_all_stand.Given as goal

-- the values so far can stand
abbrev pub invariant-loop-option : goal.invariant-loop-option
invariant-loop-option l = may_all_stand l.parsed.reading (map entry_from (drop l.option-index l.options)) ≡ may_all_stand l.parsed.reading (map entry_from l.options)
